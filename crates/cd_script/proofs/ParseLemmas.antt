-- The patches of a script are sorted.
use Rattle.std.proofs.Common.{◌≡◌, ℕ, ◌+◌, Bool, List, map, Result, Ok, Err, sym, ap, ◌∙◌, arith}
use Rattle.std.specs.Prelude.{not, ◌==◌, ◌&&◌}
use Rattle.std.specs.List.Sorted.{IsSortedByKey, IsStableByKey}
use Rattle.std.specs.Ordering.{nat_cmp, is_lt}
use Rattle.std.proofs.lemmas.Bool.Decides.{nat_tests}
use Rattle.std.proofs.lemmas.List.Elements.{filter_agree}
use Rattle.std.proofs.lemmas.List.Sorted.{answers_always, IsNonDecreasingBy-from_sort, All-permutation, length_permutation}
use denote.Ref.{Bor}
use Rattle.std.specs.Fn.{Called, ComputesKey, Mut}
use Rattle.bstr.specs.Text.{lines_of, without_terminator}
use Rattle.cd_script.specs.declared.fault.ScriptFault.{ScriptFault}
use Rattle.cd_script.specs.PatchForm.{Patch}
use Rattle.cd_script.specs.declared.version.Version.{Version}
use Rattle.cd_script.specs.declared.patch.Edit.TheVariants.{Rebuild}
use Rattle.cd_script.specs.Order.{order, stands_in}
use Rattle.cd_script.specs.Patch.{IsPatch, IsPatchList}
use Rattle.cd_script.specs.Script.{patches_from, script, script_from}
use Rattle.cd_script.proofs.general.Lines.{lines-is}
use Rattle.cd_script.proofs.OrderLemmas.{order-rises, order-permutes, order-only}
use Rattle.cd_script.proofs.PatchLemmas.{script-behind}

tie : (k b : ℕ) → (not (is_lt (nat_cmp k b)) && not (is_lt (nat_cmp b k))) ≡ (b == k)
tie k b = grind (arith, nat_tests)

-- a stable sort by the block results in the order
pub sorted-order : (ps qs : List Patch) → IsSortedByKey (λ p. p.block) nat_cmp qs
    → IsStableByKey (λ p. p.block) nat_cmp ps qs → qs ≡ order ps
sorted-order ps qs sorted stable =
    order-only ps qs (IsNonDecreasingBy-from_sort (λ p. p.block) qs sorted) (λ k.
    let test : Patch → Bool = λ p.
    not (is_lt (nat_cmp k p.block)) && not (is_lt (nat_cmp p.block k)) in
    let same : (x : Patch) → test x ≡ stands_in k x = λ x. tie k x.block in
    sym (filter_agree test (stands_in k) same qs)
    ∙ stable (record { line = 0; block = k; offset = 0; edit = Rebuild })
    ∙ filter_agree test (stands_in k) same ps)

-- a stable sort by a closure that returns the block results in the order
pub in_order : {F : Type 0} {g : Mut F (Bor Patch × Unit {0}) ℕ} {f : F} (ps qs : List Patch)
    → ((key : Patch → ℕ) → ComputesKey g key f → IsSortedByKey key nat_cmp qs)
    → ((key : Patch → ℕ) → ComputesKey g key f → IsStableByKey key nat_cmp ps qs)
    → ((f : F) (a : Bor Patch × Unit {0}) (r : ℕ) (f' : F) → Called g f a r f' → r ≡ a.0.now.block)
    → qs ≡ order ps
in_order {F} {g} {f} ps qs sorted stable each =
    let computes = answers_always g (λ a r. r ≡ a.0.now.block) f each in
    sorted-order ps qs (sorted (λ p. p.block) computes) (stable (λ p. p.block) computes)

pub order-list : (ls : List (List ℕ)) (ps : List Patch) → script_from 1 ls ≡ Ok ps
    → IsPatchList (order ps)
order-list ls ps e =
    let h = script-behind 1 ls ps e in
    record {
      each = All-permutation IsPatch ps (order ps) (order-permutes ps) h.each;
      count = omega (arith, length_permutation ps (order ps) (order-permutes ps));
      rising = order-rises ps;
    }

-- the script of a text is read from its lines after the head line
pub script-rest : (version : Version) (text bytes : List ℕ) (all rest : List (List ℕ)) (head : ℕ)
    → all ≡ map without_terminator (lines_of text)
    → script_from 1 all ≡ patches_from version (head + 1) 0 rest
    → map without_terminator (lines_of bytes) ≡ rest
    → script text ≡ patches_from version (head + 1) 0 (map without_terminator (lines_of bytes))
script-rest version text bytes all rest head is_all read is_rest =
    ap (script_from 1) (sym (is_all ∙ lines-is text)) ∙ read
    ∙ ap (patches_from version (head + 1) 0) (sym is_rest)

pub no_fault : (read : Result (List Patch) ScriptFault) (ps : List Patch) (e : ScriptFault)
    → read ≡ Ok ps → read ≡ Err e → ⊥
no_fault read ps e sound is = cc
