use Rattle.std.proofs.Common.{◌≡◌, ℕ, ◌<◌, Bool, true, false, List, sym, ap, ◌∙◌, arith, rules}
use Rattle.std.specs.Prelude.{nat_eq, slice_index}
use Rattle.std.specs.List.{starts_with}
use Rattle.cd_sector.specs.Kind.{kind_of, kind_of_mode, sync_field}
use Rattle.cd_sector.specs.declared.kinds.SectorKind.TheVariants.{NoSync, Other}
use Rattle.cd_sector.proofs.kinds.kind.Goals as goal

none_without_sync : (s bytes : List ℕ) (begins : Bool) → bytes ≡ s
    → begins ≡ starts_with nat_eq bytes sync_field → begins ≡ false → NoSync ≡ kind_of s
unfolding kind_of
none_without_sync s bytes begins same e f =
    let known : starts_with nat_eq s sync_field ≡ false = rw same at (sym e ∙ f) in
    rw known

by_mode : {s bytes : List ℕ} {begins : Bool} {mode : ℕ} → bytes ≡ s
    → begins ≡ starts_with nat_eq bytes sync_field → begins ≡ true
    → mode ≡ slice_index s 15 → kind_of_mode mode ≡ kind_of s
unfolding kind_of
by_mode {s} {bytes} same e f at =
    let known : starts_with nat_eq s sync_field ≡ true = rw same at (sym e ∙ f) in
    rw (known, at)

other_past_2 : (mode : ℕ) → 2 < mode → Other ≡ kind_of_mode mode
other_past_2 mode h = search rules

pub returns-then-not-starts_with : goal.returns-then-not-starts_with
returns-then-not-starts_with c =
    none_without_sync c.args.s.now c.bytes.result.now c.starts_with.result c.bytes.ensures.bytes
    c.starts_with.ensures.value c.if-not-starts_with.true

pub returns-in-0 : goal.returns-in-0
returns-in-0 c =
    ap kind_of_mode (sym c.in-0.is) ∙ by_mode c.bytes.ensures.bytes c.starts_with.ensures.value
    c.if-not-starts_with.false c.byte.ensures

pub returns-in-1 : goal.returns-in-1
returns-in-1 c =
    ap kind_of_mode (sym c.in-1.is) ∙ by_mode c.bytes.ensures.bytes c.starts_with.ensures.value
    c.if-not-starts_with.false c.byte.ensures

pub returns-in-2 : goal.returns-in-2
returns-in-2 c =
    let is : c.byte.result ≡ 2 = omega arith in
    ap kind_of_mode (sym is) ∙ by_mode c.bytes.ensures.bytes c.starts_with.ensures.value
    c.if-not-starts_with.false c.byte.ensures

pub returns-in_default : goal.returns-in_default
returns-in_default c =
    other_past_2 c.byte.result (omega arith) ∙ by_mode c.bytes.ensures.bytes
    c.starts_with.ensures.value c.if-not-starts_with.false c.byte.ensures
