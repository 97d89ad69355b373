-- If the definition gives no kind of error for the arguments, the matches name a command, and have
-- its texts and a base in its range.
use Rattle.std.proofs.Common.{inl, inr, ap, length, map, ℕ, slice_index_or, ◌≡◌, ◌∙◌, ◌⊎◌, ◌&&◌, ◌||◌, Bool, true, false, cond, List, [], ◌∷◌, ◌++◌, Option, Some, None, codes, refl, sym}
use Rattle.std.specs.Prelude.{IsSome, find, fold, if◌then◌else◌, is_some, not, option_and_then, option_map, pos, slice_get}
use Rattle.std.specs.List.{list_all, list_any}
use Rattle.std.specs.Option.{option_map_or}
use Rattle.std.specs.Str.{bytes_eq}
use Rattle.std.proofs.lemmas.Bool.{and_parts, or_cases}
use Rattle.std.proofs.lemmas.Slice.Eq.{bytes_eq-Decides}
use Rattle.clap.specs.Words.{App, IsSignedIn, Row, Rule, Shape, Text, built, fault_of, first_of, subcommand_of, without_minus}
use Rattle.clap.specs.Facts.{explicit_source}
use Rattle.clap.specs.Faults.{entered_fault, level_fault, use_fault, values_fault, action_fault, repeat_fault, check_fault}
use Rattle.clap.specs.Kinds.{check_kinds, or_else, range_kinds, values_kinds}
use Rattle.clap.specs.Simple.{built_leaf, filled, filled_from, help_rule, index_after, with_index, entered, inherited, label_of, marked_built, names_of, rows_at, with_leaf_noted}
use Rattle.clap.specs.Takes.{is_given}
use Rattle.clap.specs.ValueTests.{accepts}
use Rattle.clap.specs.Walk.{action_of, answers_to, at_row, values_or_missing, default_rows, finished, has_row, more_values, nothing_held, reading_by, row_text, settled, stop_after, walk, with_default}
use Rattle.clap.specs.declared.builder.value_parser.Reading.{Reading}
use Rattle.clap.specs.declared.builder.value_parser.Reading.TheVariants.{WithoutMinus}
use Rattle.clap.specs.declared.builder.value_parser.ValueParser.TheVariants as vp
use Rattle.clap.specs.declared.builder.action.ArgAction.TheVariants.{Set}
use Rattle.clap.specs.declared.error.kind.ErrorKind.TheVariants.{DisplayHelp, ValueValidation}
use Rattle.clap.specs.declared.parser.matches.ValueSource.{ValueSource}
use Rattle.clap.specs.declared.parser.matches.ValueSource.TheVariants.{DefaultValue}
use Rattle.clap.proofs.SimpleLemmas.{is_false}
use Rattle.clap.proofs.ValueTestLemmas.{accepts-Accepts}
use Rattle.cd_args.specs.CommandLine.{IsComplete, apply_shape, command_line, image_shape, patching_shape, program_shape}
use Rattle.cd_args.specs.Arguments.{flag_rule, text_rule}
use Rattle.cd_args.specs.Options.{HasBase, base_rule, flags, option_rules}
use Rattle.cd_address.specs.Address.{last_block}
use Rattle.cd_args.proofs.general.Rows.{AllStart, Each, Each-append, Each-find, IsUsedBy, Starts, Uses, level_parts, level_starts, neither, replaces}

-- ---- the row of an argument with a default

-- after a use of the argument `id`, a row exists if it existed before, or is the row of this
-- argument
has_row-with : (wanted id : Text) (s : ValueSource) (values : List Text) (missing rows : List Row)
    → has_row id missing ≡ true → (has_row wanted rows ≡ true) ⊎ (id ≡ wanted)
    → has_row wanted (at_row id (more_values s values) missing rows) ≡ true
has_row-with wanted id s values missing [] there (inl was) = cc
has_row-with wanted id s values missing [] there (inr is) = rw is at there
has_row-with wanted id s values missing (r ∷ rs) there h =
    go (bytes_eq r.id id) (bytes_eq r.id wanted) refl refl h
    (has_row-with wanted id s values missing rs there)
  where
    go : (b t : Bool) → bytes_eq r.id id ≡ b → bytes_eq r.id wanted ≡ t
        → (has_row wanted (r ∷ rs) ≡ true) ⊎ (id ≡ wanted)
        → ((has_row wanted rs ≡ true) ⊎ (id ≡ wanted)
        → has_row wanted (at_row id (more_values s values) missing rs) ≡ true)
        → has_row wanted
        (cond b (more_values s values r ++ rs) (r ∷ at_row id (more_values s values) missing rs))
        ≡ true
    go true true e f h rest = rw f refl
    go true false e f (inl was) rest = was
    go true false e f (inr is) rest = let bad : true ≡ false = sym e ∙ rw (← is) at f in cc
    go false true e f h rest = rw f refl
    go false false e f (inl was) rest = rw f (rest (inl (rw f at was)))
    go false false e f (inr is) rest = rw f (rest (inr is))

-- whether there is a value
abbrev has_values : List Text → Bool
has_values [] = false
has_values (v ∷ vs) = true

default_has : (wanted : Text) (a : Rule) (rows : List Row) → bytes_eq a.id a.id ≡ true
    → (has_row wanted rows ≡ true) ⊎ ((a.id ≡ wanted) × (has_values a.defaults ≡ true))
    → has_row wanted (with_default rows a) ≡ true
default_has wanted a rows same h = go (has_row a.id rows) a.defaults refl h
  where
    go : (b : Bool) (vs : List Text) → has_row a.id rows ≡ b
        → (has_row wanted rows ≡ true) ⊎ ((a.id ≡ wanted) × (has_values vs ≡ true))
        → has_row wanted (cond b rows (default_rows a.id (reading_by a) vs rows)) ≡ true
    go true vs e (inl was) = was
    go true vs e (inr is) = rw is.0 at e
    go false [] e (inl was) = was
    go false [] e (inr is) = cc is.1
    go false (v ∷ vs) e (inl was) =
        has_row-with wanted a.id DefaultValue (v ∷ vs) _ rows (rw same refl) (inl was)
    go false (v ∷ vs) e (inr is) =
        has_row-with wanted a.id DefaultValue (v ∷ vs) _ rows (rw same refl) (inr is.0)

-- whether a rule is that of `--base`, with a default
abbrev is_base : Rule → Bool
is_base a = bytes_eq a.id (codes "base") && has_values a.defaults

-- if one of the rules is that of `--base`, it has a row after the defaults
based : (rules : List Rule) (rows : List Row)
    → (has_row (codes "base") rows ≡ true) ⊎ (list_any is_base rules ≡ true)
    → has_row (codes "base") (fold with_default rows rules) ≡ true
based [] rows (inl was) = was
based [] rows (inr some) = cc
based (a ∷ others) rows h =
    based others (with_default rows a) (elim h [
      | inl was ↦ inl (default_has (codes "base") a rows (same a.id) (inl was))
      | inr some ↦ elim (or_cases (is_base a) (list_any is_base others) some) [
        | inl here ↦
            let parts = and_parts (bytes_eq a.id (codes "base")) (has_values a.defaults) here in
            inl (default_has (codes "base") a rows (same a.id)
            (inr ((bytes_eq-Decides a.id (codes "base")).0 parts.0, parts.1)))
        | inr later ↦ inr later
      ]
    ])
  where
    same : (id : Text) → bytes_eq id id ≡ true
    same id = (bytes_eq-Decides id id).1 refl

-- a row that exists is found
pub record Found (id : Text) (rows : List Row) : Type 0 where
  pub row : Row
  pub is : find (λ r. bytes_eq r.id id) rows ≡ Some row
  pub same : bytes_eq row.id id ≡ true

has_row-found : (id : Text) (rows : List Row) → has_row id rows ≡ true → Found id rows
has_row-found id [] there = cc
has_row-found id (r ∷ rs) there = go (bytes_eq r.id id) refl (has_row-found id rs)
  where
    go : (b : Bool) → bytes_eq r.id id ≡ b → (has_row id rs ≡ true → Found id rs)
        → Found id (r ∷ rs)
    go true e rest = record { row = r; is = rw e refl; same = e }
    go false e rest =
        let f = rest (rw e at there) in
        record { row = f.row; is = rw e f.is; same = f.same }

-- ---- the values of an argument

-- a text of `--base` is a number in the range, and is read without a minus
abbrev IsBaseText : Text → Reading → Text → Type 0
IsBaseText id how text =
    id ≡ codes "base" → (how ≡ WithoutMinus) × IsSignedIn (pos 0) (pos last_block) text

first_given : (id : Text) (rows : List Row) → AllStart IsBaseText rows → is_given id rows ≡ true
    → IsSome (first_of id rows)
first_given id rows starts given =
    go (find (λ r. bytes_eq r.id id) rows)
    (Each-find (Starts IsBaseText) (λ r. bytes_eq r.id id) rows starts) given
  where
    go : (o : Option Row) → ((r : Row) → o ≡ Some r → Starts IsBaseText r)
        → option_map_or (λ r. explicit_source r.source) o false ≡ true
        → is_some (option_and_then (λ (r : Row). slice_get r.values 0) o) ≡ true
    go None known e = cc
    go (Some r) known e = rw (known r refl).is_first refl

base_read : (rows : List Row) → AllStart IsBaseText rows → has_row (codes "base") rows ≡ true
    → HasBase rows
base_read rows starts there =
    let f = has_row-found (codes "base") rows there in
    let s =
    Each-find (Starts IsBaseText) (λ r. bytes_eq r.id (codes "base")) rows starts f.row f.is in
    let q = s.holds ((bytes_eq-Decides f.row.id (codes "base")).0 f.same) in
    let text : row_text f.row ≡ Some (without_minus s.first) = rw (s.is_first, q.0) refl in
    record { text = s.first; read = rw f.is text; accepted = q.1 }

-- ---- the commands

-- a command after `build`
abbrev leaf : Shape → Shape
leaf s = built_leaf (inherited (with_leaf_noted (marked_built program_shape)) s)

accepted_value : (v : Text) (vs : List Text)
    → values_kinds false (vp.Signed (pos 0) (pos last_block)) (v ∷ vs) ≡ []
    → IsSignedIn (pos 0) (pos last_block) v
accepted_value v vs e = go (accepts false (vp.Signed (pos 0) (pos last_block)) v) refl e
  where
    go : (b : Bool) → accepts false (vp.Signed (pos 0) (pos last_block)) v ≡ b
        → or_else (if b then [] else ValueValidation ∷ [])
        (values_kinds false (vp.Signed (pos 0) (pos last_block)) vs) ≡ []
        → IsSignedIn (pos 0) (pos last_block) v
    go true is none = accepts-Accepts false (vp.Signed (pos 0) (pos last_block)) v is
    go false is none = cc

abbrev text_built : ℕ → Text → Rule
text_built index id = with_index index (filled (text_rule id))

abbrev base_built : Rule
base_built = filled base_rule

abbrev flag_built : Text → Rule
flag_built id = filled (flag_rule id)

abbrev help_built : Rule
help_built = filled help_rule

-- a use that gives a value to an argument other than `--base`
other_use : (a : Rule) (values : List Text) (v : Text) → (a.id ≡ codes "base" → ⊥)
    → replaces (action_of a) ≡ true → slice_get (values_or_missing a values) 0 ≡ Some v
    → Uses IsBaseText a values
other_use a values v other replacing is = record {
  replacing = replacing;
  first = v;
  is_first = is;
  holds = λ e. absurd (other e);
}

-- texts that the test distinguishes
differ : {s t : Text} → s ≡ t → bytes_eq s t ≡ false → ⊥
differ {s} {t} e test = let bad : true ≡ false = sym ((bytes_eq-Decides s t).1 e) ∙ test in cc

text_use : (index : ℕ) (id : Text) → bytes_eq id (codes "base") ≡ false
    → (again : Bool) (values : List Text) (rows : List Row)
    → use_fault again (text_built index id) values rows ≡ []
    → Uses IsBaseText (text_built index id) values
text_use index id other again [] rows e = cc
text_use index id other again (v ∷ vs) rows e =
    other_use (text_built index id) (v ∷ vs) v (λ is. differ is other) refl refl

-- the text of a flag other than `--base`
flag_use : (id : Text) → bytes_eq id (codes "base") ≡ false → (again : Bool) (values : List Text)
    (rows : List Row) → use_fault again (flag_built id) values rows ≡ []
    → Uses IsBaseText (flag_built id) values
flag_use id other again [] rows e =
    other_use (flag_built id) [] (codes "true") (λ is. differ is other) refl refl
flag_use id other again (v ∷ vs) rows e =
    other_use (flag_built id) (v ∷ vs) v (λ is. differ is other) refl refl

base_use : (again : Bool) (values : List Text) (rows : List Row)
    → use_fault again base_built values rows ≡ [] → Uses IsBaseText base_built values
base_use again [] rows e = cc
base_use again (v ∷ vs) rows e =
    let range =
    neither (range_kinds 1 1 (length (v ∷ vs)))
    (action_fault Set again base_built (v ∷ vs) rows) e in
    let values =
    neither (repeat_fault again (codes "base") rows)
    (values_fault base_built (v ∷ vs)) range.1 in
    record {
      replacing = refl;
      first = v;
      is_first = refl;
      holds = λ is. (refl, accepted_value v vs values.1);
    }

help_use : (again : Bool) (values : List Text) (rows : List Row)
    → use_fault again help_built values rows ≡ [] → Uses IsBaseText help_built values
help_use again values rows e =
    let range = neither (range_kinds 0 0 (length values)) (DisplayHelp ∷ []) e in
    let none = range.1 in cc

base_default : (v : Text) (vs : List Text) → base_built.defaults ≡ v ∷ vs
    → IsBaseText (codes "base") WithoutMinus v
base_default v vs e is =
    let same : codes "0" ≡ v = ap (λ (ts : List Text). slice_index_or ts 0 v) e in
    (refl, rw (← same) (accepts-Accepts false (vp.Signed (pos 0) (pos last_block)) (codes "0") refl))

text_used : (index : ℕ) (id : Text) → bytes_eq id (codes "base") ≡ false
    → IsUsedBy IsBaseText (text_built index id)
text_used index id other = record { use_of = text_use index id other; default_of = λ v vs e. cc }

base_used : IsUsedBy IsBaseText base_built
base_used = record { use_of = base_use; default_of = base_default }

flag_used : (id : Text) → bytes_eq id (codes "base") ≡ false → IsUsedBy IsBaseText (flag_built id)
flag_used id other = record {
  use_of = flag_use id other;
  default_of = λ v vs e is. absurd (differ is other);
}

help_used : IsUsedBy IsBaseText help_built
help_used = record { use_of = help_use; default_of = λ v vs e. cc }

-- an argument whose uses pass, whatever its index is
abbrev IsUsedAt : Rule → Type 0
IsUsedAt a = (index : ℕ) → IsUsedBy IsBaseText (with_index index (filled a))

-- building fills each argument in
filled_used : (index : ℕ) (rules : List Rule) → Each IsUsedAt rules
    → Each (IsUsedBy IsBaseText) (filled_from index rules)
filled_used index [] used = tt
filled_used index (a ∷ rules) used =
    (used.0 index, filled_used (index_after index a) rules used.1)

-- flags other than `--base`
flags_used : (ids : List Text) → list_all (λ id. not (bytes_eq id (codes "base"))) ids ≡ true
    → Each IsUsedAt (map flag_rule ids)
flags_used [] others = tt
flags_used (id ∷ ids) others =
    let parts = and_parts (not (bytes_eq id (codes "base"))) _ others in
    (λ index. flag_used id (is_false _ parts.0), flags_used ids parts.1)

options_used : (others : List Rule) → Each IsUsedAt others → Each IsUsedAt (option_rules ++ others)
options_used others used =
    Each-append IsUsedAt option_rules others
    (Each-append IsUsedAt (map flag_rule flags) (base_rule ∷ []) (flags_used flags refl)
    (λ index. base_used, tt)) used

image_rules : (name : Text) → Each (IsUsedBy IsBaseText) (leaf (image_shape name)).rules
image_rules name = (text_used 1 (codes "image") refl, (base_used, (help_used, tt)))

patching_rules : (name : Text) → Each (IsUsedBy IsBaseText) (leaf (patching_shape name)).rules
patching_rules name =
    filled_used 1
    (text_rule (codes "image") ∷ text_rule (codes "script") ∷ (option_rules ++ help_rule ∷ [])) (
      λ index. text_used index (codes "image") refl,
      (
        λ index. text_used index (codes "script") refl,
        options_used (help_rule ∷ []) (λ index. help_used, tt),
      ),
    )

apply_rules : Each (IsUsedBy IsBaseText) (leaf apply_shape).rules
apply_rules =
    filled_used 1
    (text_rule (codes "image") ∷ text_rule (codes "script")
    ∷ (option_rules ++ text_rule (codes "out") ∷ help_rule ∷ [])) (
      λ index. text_used index (codes "image") refl,
      (
        λ index. text_used index (codes "script") refl,
        options_used (text_rule (codes "out") ∷ help_rule ∷ [])
            (λ index. text_used index (codes "out") refl, (λ index. help_used, tt)),
      ),
    )

required_given : (b rest : Bool) → (not b || rest) ≡ false → (b ≡ true) × (rest ≡ false)
required_given true rest e = (refl, e)
required_given false rest e = cc

no_check : (help subcommand argument : Bool) → check_kinds help subcommand argument ≡ []
    → (subcommand ≡ false) × (argument ≡ false)
no_check true subcommand argument e = cc
no_check false true argument e = cc
no_check false false true e = cc
no_check false false false e = (refl, refl)

subcommand_met : (b : Bool) → (not b && true) ≡ false → b ≡ true
subcommand_met true e = refl
subcommand_met false e = cc

-- the last checks of a level pass only if a required subcommand was met, and each required argument
-- was given
check_parts : (s : Shape) (rows : List Row) (met : Bool) → check_fault s rows met ≡ []
    → ((not met && s.subcommand_required) ≡ false)
    × ((not (s.subcommand_negates_reqs && met) && list_any
    (λ (a : Rule). a.required && not (is_given a.id rows)) s.rules) ≡ false)
check_parts s rows met e =
    no_check (not met &&
    (s.arg_required_else_help && not (list_any (λ (r : Row). explicit_source r.source) rows)))
    (not met && s.subcommand_required)
    (not (s.subcommand_negates_reqs && met) && list_any
    (λ (a : Rule). a.required && not (is_given a.id rows)) s.rules) e

-- the rows of a command whose words give no kind of error
module _ (s : Shape) (by : Each (IsUsedBy IsBaseText) s.rules) (words : List Text)
    (e : level_fault s [] nothing_held words false [] ≡ []) where
  abbrev held_rows : List Row
  held_rows = (settled s.rules (walk s.rules [] nothing_held words).held).rows

  abbrev level_rows : List Row
  level_rows = finished s.rules (walk s.rules [] nothing_held words).held

  level_start : AllStart IsBaseText level_rows
  level_start = level_starts IsBaseText s by [] words false [] e

  level_checked :
      (not (s.subcommand_negates_reqs && false)
      && list_any (λ (a : Rule). a.required && not (is_given a.id level_rows)) s.rules) ≡ false
  level_checked = (check_parts s level_rows false (level_parts s [] words false [] e).checks).1

  -- the option `--base` has a row after its default
  level_base : list_any is_base s.rules ≡ true → HasBase level_rows
  level_base there = base_read level_rows level_start (based s.rules held_rows (inr there))

-- ---- the program

-- if a command's words give no kind of error, its matches are complete
abbrev IsSound : Shape → Type 0
IsSound s =
    (words : List Text) → level_fault s [] nothing_held words false [] ≡ []
    → IsComplete (rows_at s words)

-- a command that reads only an image
reading_sound : (name : Text) → (name ≡ codes "list") ⊎ (name ≡ codes "audit")
    → bytes_eq name (codes "check") ≡ false → bytes_eq name (codes "apply") ≡ false
    → IsSound (leaf (image_shape name))
reading_sound name is check apply words e =
    let s = leaf (image_shape name) in
    let by = image_rules name in
    let rows = level_rows s by words e in
    let image = required_given (is_given (codes "image") rows) false (level_checked s by words e) in
    record {
      name = elim is [ inl list ↦ inl list | inr audit ↦ inr (inl audit) ];
      image = first_given (codes "image") rows (level_start s by words e) image.0;
      script = λ is. absurd (elim is [ inl e ↦ differ e check | inr e ↦ differ e apply ]);
      out = λ is. absurd (differ is apply);
      base = level_base s by words e refl;
    }

check_sound : IsSound (leaf (patching_shape (codes "check")))
check_sound words e =
    let s = leaf (patching_shape (codes "check")) in
    let by = patching_rules (codes "check") in
    let rows = level_rows s by words e in
    let starts = level_start s by words e in
    let image = required_given (is_given (codes "image") rows) _ (level_checked s by words e) in
    let script = required_given (is_given (codes "script") rows) false image.1 in
    record {
      name = inr (inr (inl refl));
      image = first_given (codes "image") rows starts image.0;
      script = λ is. first_given (codes "script") rows starts script.0;
      out = λ is. absurd (differ is refl);
      base = level_base s by words e refl;
    }

apply_sound : IsSound (leaf apply_shape)
apply_sound words e =
    let s = leaf apply_shape in
    let rows = level_rows s apply_rules words e in
    let starts = level_start s apply_rules words e in
    let image =
    required_given (is_given (codes "image") rows) _ (level_checked s apply_rules words e) in
    let script = required_given (is_given (codes "script") rows) _ image.1 in
    let out = required_given (is_given (codes "out") rows) false script.1 in
    record {
      name = inr (inr (inr refl));
      image = first_given (codes "image") rows starts image.0;
      script = λ is. first_given (codes "script") rows starts script.0;
      out = λ is. first_given (codes "out") rows starts out.0;
      base = level_base s apply_rules words e refl;
    }

-- the command that the arguments name, with the contents of its matches
pub record Named (words : List Text) : Type 0 where
  pub matches : Text × List Row
  pub is : subcommand_of command_line words ≡ Some matches
  pub complete : IsComplete matches

named_at : (app : App) (stop : Option (Text × List Text)) → Each IsSound app.subs
    → entered_fault app stop ≡ [] → is_some (entered app stop) ≡ true
    → (p : Text × List Row) × (entered app stop ≡ Some p) × IsComplete p
named_at app None sound e there = cc
named_at app (Some q) sound e there =
    go (find (λ s. answers_to q.0 (label_of s)) app.subs)
    (Each-find IsSound (λ s. answers_to q.0 (label_of s)) app.subs sound) e there
  where
    go : (o : Option Shape) → ((s : Shape) → o ≡ Some s → IsSound s)
        → option_map_or (λ s. level_fault s [] nothing_held q.1 false []) o [] ≡ []
        → is_some (option_map (λ s. rows_at s q.1) o) ≡ true
        → (p : Text × List Row) × (option_map (λ s. rows_at s q.1) o ≡ Some p) × IsComplete p
    go None known e there = cc
    go (Some s) known e there = (rows_at s q.1, refl, known s refl q.1 e)

pub no_fault-named : (words : List Text) → fault_of command_line words ≡ [] → Named words
unfolding command_line
no_fault-named words e =
    let program = built command_line in
    let stop = stop_after program.top.rules (names_of program) words in
    let parts =
    level_parts program.top (names_of program) words (is_some (entered program stop))
    (entered_fault program stop) e in
    let end = (walk program.top.rules (names_of program) nothing_held words).held in
    let checked =
    check_parts program.top (finished program.top.rules end)
    (is_some (entered program stop)) parts.checks in
    let there = subcommand_met (is_some (entered program stop)) checked.0 in
    let named =
    named_at program stop (
      reading_sound (codes "list") (inl refl) refl refl,
      (reading_sound (codes "audit") (inr refl) refl refl, (check_sound, (apply_sound, tt))),
    ) parts.enters there in
    record { matches = named.0; is = named.1; complete = named.2 }
