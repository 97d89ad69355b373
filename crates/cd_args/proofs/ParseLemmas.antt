-- Consequences of the parser's clauses for jobs and refusals.
use Rattle.std.proofs.Common.{◌≡◌, ◌∙◌, ◌==◌, ℕ, ap, ap₂, length, map, Bool, true, false, cond, List, [], ◌∷◌, Option, Some, None, inl, inr, refl, subst, sym}
use Rattle.std.specs.Prelude.{Box, is_some, option_map}
use Rattle.std.specs.Box.{box_value}
use Rattle.std.proofs.lemmas.Bool.{eqb-true}
use Rattle.std.proofs.lemmas.List.{nil_from_length}
use Rattle.clap.specs.Words.{App, HasKind, HasMatchesOf, Row, Text, fault_of, is_simple, is_simple_and_free, kind_of, subcommand_of, subcommand_rows, subcommand_rows_of, takes}
use Rattle.clap.specs.declared.error.Error.{Error}
use Rattle.clap.specs.declared.error.kind.ErrorKind.TheVariants.{OutOfMemory}
use Rattle.clap.specs.declared.parser.matches.ArgMatches.{ArgMatches}
use Rattle.clap.specs.declared.parser.matches.ArgMatches.TheViews.{out-ArgMatches, out-SubCommand}
use Rattle.clap.specs.declared.parser.matches.SubCommand.{SubCommand}
use Rattle.clap.proofs.OnLiterals.{clap_on_literals}
use Rattle.cd_args.specs.CommandLine.{HasMatches, IsAccepted, IsComplete, IsJobOf, IsListJob, command_line}
use Rattle.cd_args.specs.Fault.{HasKindOf, error_kinds, fault_from, is_out_of_memory}
use Rattle.cd_args.specs.declared.fault.LineFault.{LineFault}
use Rattle.cd_args.specs.declared.fault.LineFault.TheVariants.{Parser, NoMemory}
use Rattle.cd_args.specs.declared.job.Job.{Job}
use Rattle.cd_args.proofs.AcceptedLemmas.{no_fault-named}

-- ---- the definition gives the matches for this command line

pub command_line_simple : is_simple command_line ≡ true
unfolding command_line clap_on_literals
command_line_simple = refl

pub command_line_free : is_simple_and_free command_line ≡ true
unfolding command_line clap_on_literals
command_line_free = refl

-- ---- if there are arguments

accepted-takes : (words : List Text) → (words ≡ [] → ⊥) → IsAccepted words
    → takes command_line words ≡ true
unfolding IsAccepted
accepted-takes [] some taken = absurd (some refl)
accepted-takes (w ∷ ws) some taken = taken

pub some-error_kinds : (words : List Text) → (words ≡ [] → ⊥)
    → error_kinds words ≡ fault_of command_line words
unfolding error_kinds
some-error_kinds [] some = absurd (some refl)
some-error_kinds (w ∷ ws) some = refl

-- ---- refusals

-- consequences of the parser's clauses for the words of the arguments
module _ (app : App) (is : app ≡ command_line) (ws words : List Text) (given : ws ≡ words) where
  pub taken-no_memory : (e : Error) (fault : LineFault) → (words ≡ [] → ⊥)
      → (takes app ws ≡ true → kind_of e ≡ OutOfMemory)
      → fault ≡ fault_from e → IsAccepted words → fault ≡ NoMemory
  taken-no_memory e fault some passes made taken =
      let memory = passes (ap₂ takes is given ∙ accepted-takes words some taken) in
      made ∙ rw memory refl

  -- no kind of error is found in them
  pub unfaulted : (is_simple_and_free app ≡ true → fault_of app ws ≡ [])
      → fault_of command_line words ≡ []
  unfaulted kinds =
      ap₂ fault_of (sym is) (sym given) ∙ kinds (ap is_simple_and_free is ∙ command_line_free)

  pub fault-has_kind : (e : Error) (fault : LineFault) → (words ≡ [] → ⊥)
      → (is_simple_and_free app ≡ true → HasKind (fault_of app ws) e) → fault ≡ fault_from e
      → HasKindOf words fault
  fault-has_kind e fault some kinds made =
      rw made (go (is_out_of_memory (kind_of e)) refl
      (subst (λ ks. HasKind ks e) (ap₂ fault_of is given ∙ sym (some-error_kinds words some))
      (kinds (ap is_simple_and_free is ∙ command_line_free))))
    where
      go : (b : Bool) → is_out_of_memory (kind_of e) ≡ b → HasKind (error_kinds words) e
          → HasKindOf words (cond b NoMemory (Parser e))
      go true out h = tt
      go false out (inl memory) = let bad : true ≡ false = rw memory at out in cc
      go false out (inr among) = among

-- ---- jobs

pub none-kinds : (words : List Text) → words ≡ [] → error_kinds words ≡ []
unfolding error_kinds
none-kinds words none = rw none refl

pub none-asks : (words : List Text) (job : Job) → words ≡ [] → IsListJob (45 ∷ []) 0 job
    → IsJobOf words job
unfolding IsJobOf
none-asks words job e h = rw e h

pub some-asks : (words : List Text) (job : Job) (p : Text × List Row) → (words ≡ [] → ⊥)
    → subcommand_of command_line words ≡ Some p → HasMatches p job → IsJobOf words job
unfolding IsJobOf
some-asks [] job p some is h = absurd (some refl)
some-asks (w ∷ ws) job p some is h = rw is h

-- the command that a parse entered
pub record IsEntered (words : List Text) (m : ArgMatches) : Type 0 where
  pub matches : Text × List Row
  pub rows : subcommand_rows_of m ≡ Some matches
  pub is : subcommand_of command_line words ≡ Some matches
  pub complete : IsComplete matches

pub entered : {app : App} {ws words : List Text} {m : ArgMatches} → app ≡ command_line
    → ws ≡ words → HasMatchesOf app ws m
    → (is_simple_and_free app ≡ true → fault_of app ws ≡ []) → IsEntered words m
entered {app} {ws} {words} {m} is given has kinds =
    let named = no_fault-named words (unfaulted app is ws words given kinds) in
    let rows = (has (ap is_simple is ∙ command_line_simple)).1 in
    record {
      matches = named.matches;
      rows = rows ∙ (ap₂ subcommand_of is given ∙ named.is);
      is = named.is;
      complete = named.complete;
    }

module _ {Z : Type 0} where
  rows-some : (o : Option (Box SubCommand Z)) (p : Text × List Row) → subcommand_rows o ≡ Some p
      → is_some o ≡ true
  rows-some None p e = cc
  rows-some (Some b) p e = refl

  rows-name : (o : Option (Box SubCommand Z)) (p : Text × List Row) → subcommand_rows o ≡ Some p
      → option_map (λ (b : Box SubCommand Z). (out-SubCommand (box_value b)).name.now) o ≡ Some p.0
  rows-name None p e = cc
  rows-name (Some b) p e = ap (option_map (λ (q : Text × List Row). q.0)) e

pub entered-some : (words : List Text) (m : ArgMatches) → IsEntered words m
    → is_some (out-ArgMatches m).subcommand ≡ true
entered-some words m h = rows-some (out-ArgMatches m).subcommand h.matches h.rows

-- the parts that `subcommand` gives are the entered command's
pub entered-parts : (words : List Text) (m : ArgMatches) (h : IsEntered words m) (name : Text)
    (rows : List Row)
    → Some name ≡ option_map (λ b. (out-SubCommand (box_value b)).name.now)
    (out-ArgMatches m).subcommand
    → Some rows ≡ option_map (λ (p : Text × List Row). p.1) (subcommand_rows_of m)
    → h.matches ≡ (name, rows)
entered-parts words m h name rows named found =
    let some_name : Some name ≡ Some h.matches.0 =
    named ∙ rows-name (out-ArgMatches m).subcommand h.matches h.rows in
    let some_rows : Some rows ≡ Some h.matches.1 =
    found ∙ ap (option_map (λ (p : Text × List Row). p.1)) h.rows in
    let same_name : h.matches.0 ≡ name = cc in
    let same_rows : h.matches.1 ≡ rows = cc in
    ap₂ (λ (x : Text) (y : List Row). (x, y)) same_name same_rows

-- ---- whether there are arguments

pub map-none : {X : Type 0} (f : X → Text) (xs : List X) (n : ℕ) → n ≡ length xs → (n == 0) ≡ true
    → map f xs ≡ []
map-none f xs n is e = ap (map f) (nil_from_length xs (sym is ∙ eqb-true n 0 e))

pub map-some : {X : Type 0} (f : X → Text) (xs : List X) (n : ℕ) → n ≡ length xs → (n == 0) ≡ false
    → map f xs ≡ [] → ⊥
map-some f [] n is e none = let bad : true ≡ false = rw is at e in cc
map-some f (x ∷ xs) n is e none = cc
