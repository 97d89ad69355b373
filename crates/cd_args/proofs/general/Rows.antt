-- If the definition gives no kind of error, each row has a first value, and each property of the
-- values that the uses of the arguments accept holds for it.
use Rattle.std.proofs.Common.{◌≡◌, ◌&&◌, ℕ, zero, suc, Bool, true, false, cond, List, [], ◌∷◌, ◌++◌, length, Option, Some, None, refl}
use Rattle.std.specs.Prelude.{⊤, drop, encode_utf8, find, fold, is_some, not, slice_get, if◌then◌else◌}
use Rattle.std.specs.Option.{option_map_or}
use Rattle.std.specs.Str.{bytes_eq, chars}
use Rattle.clap.specs.Lexer.{long_of, short_of}
use Rattle.clap.specs.Kinds.{Kinds, or_else}
use Rattle.clap.specs.Walk.{Held, Names, Outcome, Row, attached_value, has_long, has_short, nothing_held, pushed, Rule, Step, Text, Waiting, Walk, action_of, after_flag, after_step, arg_by_id, arg_by_index, arg_by_long, arg_by_short, at_row, bundle, bundle_met, bundle_step, default_rows, done, finished, flag_met, has_row, idle, is_pending, long_met, long_or_other, more_values, next, option, option_met, option_word, plain, plain_word, positional, reacted, reading_by, refused, settled, settled_rows, short_met, short_or_plain, subcommand, subcommand_met, subcommand_or_other, takes_several, takes_values, to_positional, trailing, used, used_as, used_by_id, value, values_or_missing, waits, walk, walk_from, walked, walked_from, with_default, with_values, without, word_met}
use Rattle.clap.specs.Simple.{Shape}
use Rattle.clap.specs.Faults.{bundle_fault, bundle_step_fault, check_fault, defaults_fault, flag_word_fault, flags_fault, level_fault, long_fault, option_fault, other_fault, positional_fault, react_fault, settle_fault, short_fault, step_fault, stray_fault, turn_fault, use_fault, walk_fault, word_fault}
use Rattle.clap.specs.declared.builder.action.ArgAction.{ArgAction}
use Rattle.clap.specs.declared.builder.action.ArgAction.TheVariants.{Set, SetTrue, SetFalse}
use Rattle.clap.specs.declared.builder.value_parser.Reading.{Reading}
use Rattle.clap.specs.declared.error.kind.ErrorKind.TheVariants.{TooManyValues}
use Rattle.clap.specs.declared.parser.matches.ValueSource.{ValueSource}
use Rattle.clap.specs.declared.parser.matches.ValueSource.TheVariants.{CommandLine, DefaultValue}

-- two steps give no kind only if neither does
pub neither : (a b : Kinds) → or_else a b ≡ [] → (a ≡ []) × (b ≡ [])
neither [] b e = (refl, e)
neither (k ∷ ks) b e = cc

-- P holds for each element
abbrev pub Each : {X : Type 0} → (X → Type 0) → List X → Type 0
Each P [] = ⊤
Each P (x ∷ xs) = P x × Each P xs

pub Each-append : {X : Type 0} (P : X → Type 0) (xs ys : List X) → Each P xs → Each P ys
    → Each P (xs ++ ys)
Each-append P [] ys h g = g
Each-append P (x ∷ xs) ys h g = (h.0, Each-append P xs ys h.1 g)

-- a property of each element holds for the element that was found
pub Each-find : {X : Type 0} (P : X → Type 0) (p : X → Bool) (xs : List X) → Each P xs → (x : X)
    → find p xs ≡ Some x → P x
Each-find P p [] h x e = cc
Each-find P p (y ∷ ys) h x e = found (p y) e h.0 (Each-find P p ys h.1 x)
  where
    found : (b : Bool) → cond b (Some y) (find p ys) ≡ Some x → P y → (find p ys ≡ Some x → P x)
        → P x
    found true same here rest = let is : y ≡ x = cc in rw (← is) here
    found false same here rest = rest same

first-append : (xs ys : List Text) (t : Text) → slice_get xs 0 ≡ Some t
    → slice_get (xs ++ ys) 0 ≡ Some t
first-append [] ys t e = cc
first-append (x ∷ xs) ys t e = e

-- an action by which a use replaces the values of an earlier one
abbrev pub replaces : ArgAction → Bool
replaces Set = true
replaces SetTrue = true
replaces SetFalse = true
replaces _ = false

used_as-replaces : (x : ArgAction) (id : Text) (how : Reading) (values : List Text)
    (rows : List Row) → replaces x ≡ true
    → used_as x id how values rows ≡ with_values id how CommandLine values (without id rows)
used_as-replaces Set id how values rows h = refl
used_as-replaces SetTrue id how values rows h = refl
used_as-replaces SetFalse id how values rows h = refl
used_as-replaces _ id how values rows h = cc

-- the row has a first value, and Q holds for it
pub record Starts (Q : Text → Reading → Text → Type 0) (r : Row) : Type 0 where
  pub first : Text
  pub is_first : slice_get r.values 0 ≡ Some first
  pub holds : Q r.id r.reading first

-- the use of an argument with these values has a first value, and Q holds for it
pub record Uses (Q : Text → Reading → Text → Type 0) (a : Rule) (values : List Text) : Type 0 where
  pub replacing : replaces (action_of a) ≡ true
  pub first : Text
  pub is_first : slice_get (values_or_missing a values) 0 ≡ Some first
  pub holds : Q a.id (reading_by a) first

-- each use of the argument that passes has a first value, and Q holds for it
pub record IsUsedBy (Q : Text → Reading → Text → Type 0) (a : Rule) : Type 0 where
  pub use_of : (again : Bool) (values : List Text) (rows : List Row)
      → use_fault again a values rows ≡ [] → Uses Q a values
  pub default_of : (v : Text) (vs : List Text) → a.defaults ≡ v ∷ vs → Q a.id (reading_by a) v

module _ (Q : Text → Reading → Text → Type 0) where
  abbrev pub AllStart : List Row → Type 0
  AllStart = Each (Starts Q)

  at_row_starts : (id : Text) (change : Row → List Row) (missing rows : List Row) → AllStart missing
      → ((r : Row) → Starts Q r → AllStart (change r))
      → AllStart rows → AllStart (at_row id change missing rows)
  at_row_starts id change missing [] absent keeps h = absent
  at_row_starts id change missing (r ∷ rs) absent keeps h =
      go (bytes_eq r.id id) (at_row_starts id change missing rs absent keeps h.1)
    where
      go : (b : Bool) → AllStart (at_row id change missing rs)
          → AllStart (cond b (change r ++ rs) (r ∷ at_row id change missing rs))
      go true rest = Each-append (Starts Q) (change r) rs (keeps r h.0) h.1
      go false rest = (h.0, rest)

  with_values_starts : (id : Text) (how : Reading) (s : ValueSource) (values : List Text) (t : Text)
      (rows : List Row) → slice_get values 0 ≡ Some t → Q id how t
      → AllStart rows → AllStart (with_values id how s values rows)
  with_values_starts id how s values t rows e q h =
      at_row_starts id (more_values s values) _ rows
      (record { first = t; is_first = e; holds = q }, tt)
      (λ r was. (
        record {
          first = was.first;
          is_first = first-append r.values values was.first was.is_first;
          holds = was.holds;
        },
        tt,
      )) h

  used_starts : (again : Bool) (a : Rule) (values : List Text) (rows : List Row) → IsUsedBy Q a
      → use_fault again a values rows ≡ []
      → AllStart rows → AllStart (used a values rows)
  used_starts again a values rows by e h =
      let u = by.use_of again values rows e in
      rw (used_as-replaces (action_of a) a.id (reading_by a) (values_or_missing a values) rows
      u.replacing)
      (with_values_starts a.id (reading_by a) CommandLine (values_or_missing a values) u.first
      (without a.id rows) u.is_first u.holds
      (at_row_starts a.id (λ _. []) [] rows tt (λ _ _. tt) h))

  default_starts : (a : Rule) (rows : List Row) → IsUsedBy Q a → AllStart rows
      → AllStart (with_default rows a)
  default_starts a rows by h = go (has_row a.id rows)
    where
      fill : (vs : List Text) → a.defaults ≡ vs
          → AllStart (default_rows a.id (reading_by a) vs rows)
      fill [] e = h
      fill (v ∷ vs) e =
          with_values_starts a.id (reading_by a) DefaultValue (v ∷ vs) v rows refl
          (by.default_of v vs e) h

      go : (b : Bool) → AllStart (cond b rows (default_rows a.id (reading_by a) a.defaults rows))
      go true = h
      go false = fill a.defaults refl

  defaults_start : (rules : List Rule) (rows : List Row) → Each (IsUsedBy Q) rules → AllStart rows
      → AllStart (fold with_default rows rules)
  defaults_start [] rows by h = h
  defaults_start (a ∷ rules) rows by h =
      defaults_start rules (with_default rows a) by.1 (default_starts a rows by.0 h)

-- the steps of one level of the parse; none gives a kind of error
pub record Parts (s : Shape) (names : Names) (words : List Text) (has_subcommand : Bool)
    (below : Kinds) : Type 0 where
  pub walks : walk_fault s names (walk_from nothing_held) words ≡ []
  pub enters : below ≡ []
  pub settles : settle_fault s.rules s.args_override_self
      (walk s.rules names nothing_held words).held ≡ []
  pub checks : check_fault s
      (finished s.rules (walk s.rules names nothing_held words).held) has_subcommand ≡ []

pub level_parts : (s : Shape) (names : Names) (words : List Text) (has_subcommand : Bool)
    (below : Kinds) → level_fault s names nothing_held words has_subcommand below ≡ []
    → Parts s names words has_subcommand below
level_parts s names words has_subcommand below e =
    let end = (walk s.rules names nothing_held words).held in
    let check = check_fault s (finished s.rules end) has_subcommand in
    let defaults = or_else (defaults_fault (settled s.rules end).rows s.rules) check in
    let settle = or_else (settle_fault s.rules s.args_override_self end) defaults in
    let walks =
    neither (walk_fault s names (walk_from nothing_held) words) (or_else below settle) e in
    let enters = neither below settle walks.1 in
    let settles = neither (settle_fault s.rules s.args_override_self end) defaults enters.1 in
    let fills = neither (defaults_fault (settled s.rules end).rows s.rules) check settles.1 in
    record { walks = walks.0; enters = enters.0; settles = settles.0; checks = fills.1 }

-- ---- the walk over the arguments

module _ (Q : Text → Reading → Text → Type 0) (s : Shape) (by : Each (IsUsedBy Q) s.rules) where
  abbrev HasStarts : Held → Type 0
  HasStarts h = AllStart Q h.rows

  -- the argument, if there is one, is an argument of the command
  abbrev IsKnown : Option Rule → Type 0
  IsKnown o = (a : Rule) → o ≡ Some a → IsUsedBy Q a

  known : (p : Rule → Bool) → IsKnown (find p s.rules)
  known p a e = Each-find (IsUsedBy Q) p s.rules by a e

  settled_rows_start : (p : Option (Text × List Text)) (rows : List Row)
      → option_map_or (λ (q : Text × List Text).
      option_map_or (λ (a : Rule). use_fault s.args_override_self a q.1 rows)
      (arg_by_id s.rules q.0) []) p [] ≡ []
      → AllStart Q rows → AllStart Q (settled_rows s.rules p rows)
  settled_rows_start None rows e g = g
  settled_rows_start (Some q) rows e g =
      go (arg_by_id s.rules q.0) (known (λ a. bytes_eq a.id q.0)) e
    where
      go : (o : Option Rule) → IsKnown o
          → option_map_or (λ (a : Rule). use_fault s.args_override_self a q.1 rows) o [] ≡ []
          → AllStart Q (used_by_id o q.1 rows)
      go None known e = g
      go (Some a) known e = used_starts Q s.args_override_self a q.1 rows (known a refl) e g

  settled_starts : (h : Held) → settle_fault s.rules s.args_override_self h ≡ [] → HasStarts h
      → HasStarts (settled s.rules h)
  settled_starts h e g = settled_rows_start h.pending h.rows e g

  reacted_starts : (a : Rule) (values : List Text) (h : Held) → IsUsedBy Q a
      → react_fault s.rules s.args_override_self a values h ≡ [] → HasStarts h
      → HasStarts (reacted s.rules a values h)
  reacted_starts a values h by e g =
      let p =
      neither (settle_fault s.rules s.args_override_self h)
      (use_fault s.args_override_self a values (settled s.rules h).rows) e in
      used_starts Q s.args_override_self a values (settled s.rules h).rows by p.1
      (settled_starts h p.0 g)

  option_starts : (a : Rule) (v : Option Text) (h : Held) → IsUsedBy Q a
      → option_fault s.rules s.args_override_self a v h ≡ [] → HasStarts h
      → HasStarts (option_met s.rules a v h).0
  option_starts a None h by e g = settled_starts h e g
  option_starts a (Some v) h by e g = reacted_starts a (v ∷ []) h by e g

  long_starts : (o : Option Rule) (v : Option Text) (h : Held) → IsKnown o
      → long_fault s.rules s.args_override_self o v h ≡ [] → HasStarts h
      → HasStarts (long_met s.rules o v h).0
  long_starts None v h by e g = g
  long_starts (Some a) v h by e g = go (takes_values a) v e
    where
      go : (b : Bool) (v : Option Text)
          → (if b then option_fault s.rules s.args_override_self a v h
          else (if is_some v then TooManyValues ∷ []
          else react_fault s.rules s.args_override_self a [] h)) ≡ []
          → HasStarts (if b then option_met s.rules a v h else flag_met s.rules a v h).0
      go true v e = option_starts a v h (by a refl) e g
      go false None e = reacted_starts a [] h (by a refl) e g
      go false (Some v) e = g

  short_starts : (o : Option Rule) (rest : Text) (h : Held) (after : Held → Kinds)
      (goes : Held → Held × Outcome) → IsKnown o
      → ((k : Held) → after k ≡ [] → HasStarts k → HasStarts (goes k).0)
      → short_fault s.rules s.args_override_self o rest h after ≡ [] → HasStarts h
      → HasStarts (short_met s.rules o rest h goes).0
  short_starts None rest h after goes by rec e g = g
  short_starts (Some a) rest h after goes by rec e g = go (takes_values a) e
    where
      go : (b : Bool)
          → (if b then option_fault s.rules s.args_override_self a (attached_value rest) h
          else or_else (react_fault s.rules s.args_override_self a [] h)
          (after (reacted s.rules a [] h))) ≡ []
          → HasStarts (if b then option_met s.rules a (attached_value rest) h
          else goes (reacted s.rules a [] h)).0
      go true e = option_starts a (attached_value rest) h (by a refl) e g
      go false e =
          let p =
          neither (react_fault s.rules s.args_override_self a [] h)
          (after (reacted s.rules a [] h)) e in
          rec (reacted s.rules a [] h) p.1 (reacted_starts a [] h (by a refl) p.0 g)

  bundle_step_starts : (x : Option ℕ) (flags : Text) (skip : ℕ) (so_far : Outcome) (h : Held)
      (after : Text → ℕ → Held → Kinds)
      (goes : Text → ℕ → Outcome → Held → Held × Outcome)
      → ((t : Text) (n : ℕ) (o : Outcome) (k : Held) → after t n k ≡ [] → HasStarts k
      → HasStarts (goes t n o k).0)
      → bundle_step_fault s.rules s.args_override_self x flags skip h after ≡ [] → HasStarts h
      → HasStarts (bundle_step s.rules x flags skip so_far h goes).0
  bundle_step_starts None flags skip so_far h after goes rec e g = g
  bundle_step_starts (Some x) flags zero so_far h after goes rec e g =
      let rest = drop (length (encode_utf8 x)) flags in
      short_starts (arg_by_short s.rules x) rest h (after rest 0) (goes rest 0 done)
      (known (λ a. not (is_some a.index) && has_short a x)) (λ k. rec rest 0 done k) e g
  bundle_step_starts (Some x) flags (suc skip) so_far h after goes rec e g =
      rec (drop (length (encode_utf8 x)) flags) skip so_far h e g

  bundle_starts : (k : ℕ) (flags : Text) (skip : ℕ) (so_far : Outcome) (h : Held)
      → flags_fault s.rules s.args_override_self k flags skip h ≡ [] → HasStarts h
      → HasStarts (bundle_met s.rules k flags skip so_far h).0
  unfolding bundle_met flags_fault
  bundle_starts zero flags skip so_far h e g = g
  bundle_starts (suc k) flags skip so_far h e g =
      bundle_step_starts (slice_get (chars flags) 0) flags skip so_far h
      (flags_fault s.rules s.args_override_self k) (bundle_met s.rules k)
      (λ t n o m f d. bundle_starts k t n o m f d) e g

  plain_starts : (waiting : Waiting) (word : Text) (h : Held) → HasStarts h
      → HasStarts (plain_word s.rules waiting word h).0
  plain_starts idle word h g = g
  plain_starts (option id) word h g = go (arg_by_id s.rules id)
    where
      go : (o : Option Rule) → HasStarts (option_word o id word h).0
      go None = g
      go (Some a) = g
  plain_starts positional word h g = g

  after_flag_starts : (waiting : Waiting) (word : Text) (h : Held) (x : Outcome) → HasStarts h
      → HasStarts (after_flag s.rules waiting word h x).0
  after_flag_starts waiting word h done g = g
  after_flag_starts waiting word h (waits id) g = g
  after_flag_starts waiting word h plain g = plain_starts waiting word h g
  after_flag_starts waiting word h refused g = plain_starts waiting word h g

  flag_word_starts : (waiting : Waiting) (word : Text) (o : Option (Text × Option Text)) (h : Held)
      → flag_word_fault s.rules s.args_override_self o word h ≡ [] → HasStarts h
      → HasStarts (long_or_other s.rules waiting word o h).0
  flag_word_starts waiting word (Some p) h e g =
      after_flag_starts waiting word (long_met s.rules (arg_by_long s.rules p.0) p.1 h).0
      (long_met s.rules (arg_by_long s.rules p.0) p.1 h).1
      (long_starts (arg_by_long s.rules p.0) p.1 h
      (known (λ a. not (is_some a.index) && has_long a p.0)) e g)
  flag_word_starts waiting word None h e g = go (short_of word) e
    where
      go : (o : Option Text)
          → option_map_or (λ flags. bundle_fault s.rules s.args_override_self flags h) o [] ≡ []
          → HasStarts (short_or_plain s.rules waiting word o h).0
      go None e = plain_starts waiting word h g
      go (Some flags) e =
          after_flag_starts waiting word (bundle s.rules flags h).0 (bundle s.rules flags h).1
          (bundle_starts (length flags) flags h.skip plain (record h { skip = 0 }) e g)

  word_starts : (names : Names) (is_trailing : Bool) (waiting : Waiting) (position : ℕ)
      (word : Text) (h : Held) → word_fault s names is_trailing waiting word h ≡ [] → HasStarts h
      → HasStarts (word_met s.rules names is_trailing waiting position word h).0
  word_starts names true waiting position word h e g = g
  word_starts names false waiting position word h e g = go (subcommand_met names waiting word) e
    where
      dashes : (b : Bool)
          → (if b then [] else flag_word_fault s.rules s.args_override_self (long_of word) word h)
          ≡ []
          → HasStarts (if b then (h, trailing position)
          else long_or_other s.rules waiting word (long_of word) h).0
      dashes true e = g
      dashes false e = flag_word_starts waiting word (long_of word) h e g

      go : (o : Option Text) → other_fault s o word h ≡ []
          → HasStarts (subcommand_or_other s.rules o waiting position word h).0
      go (Some name) e = g
      go None e = dashes (bytes_eq word (45 ∷ 45 ∷ [])) e

  step_starts : (w : Walk) (word : Text) (h : Held) (x : Step) → step_fault s w.position h x ≡ []
      → HasStarts h → HasStarts (after_step s.rules word w h x).held
  step_starts w word h (next waiting) e g = g
  step_starts w word h (trailing position) e g = g
  step_starts w word h (subcommand name) e g = g
  step_starts w word h value e g = go (arg_by_index s.rules w.position) e
    where
      held : (a : Rule) (b : Bool)
          → (if b then [] else settle_fault s.rules s.args_override_self h) ≡ []
          → HasStarts (pushed a.id word (if b then h else settled s.rules h))
      held a true e = g
      held a false e = settled_starts h e g

      go : (o : Option Rule)
          → option_map_or (λ a. positional_fault s.rules s.args_override_self a h) o (stray_fault s)
          ≡ []
          → HasStarts (to_positional s.rules o word w h).held
      go None e = g
      go (Some a) e = held a (is_pending a h.pending && takes_several a) e

  turn_starts : (names : Names) (w : Walk) (word : Text) → turn_fault s names w word ≡ []
      → HasStarts w.held → HasStarts (walked s.rules names w word).held
  unfolding walked
  turn_starts names w word e g = go w.stopped e
    where
      go : (o : Option (Text × List Text))
          → (if is_some o then []
          else or_else (word_fault s names w.is_trailing w.waiting word w.held)
          (step_fault s w.position
          (word_met s.rules names w.is_trailing w.waiting w.position word w.held).0
          (word_met s.rules names w.is_trailing w.waiting w.position word w.held).1)) ≡ []
          → HasStarts (walked_from s.rules names o w word).held
      go (Some p) e = g
      go None e =
          let met = word_met s.rules names w.is_trailing w.waiting w.position word w.held in
          let p =
          neither (word_fault s names w.is_trailing w.waiting word w.held)
          (step_fault s w.position met.0 met.1) e in
          step_starts w word met.0 met.1 p.1
          (word_starts names w.is_trailing w.waiting w.position word w.held p.0 g)

  walk_starts : (names : Names) (words : List Text) (w : Walk) → walk_fault s names w words ≡ []
      → HasStarts w.held → HasStarts (fold (walked s.rules names) w words).held
  unfolding walk_fault
  walk_starts names [] w e g = g
  walk_starts names (word ∷ rest) w e g =
      let p =
      neither (turn_fault s names w word)
      (walk_fault s names (walked s.rules names w word) rest) e in
      walk_starts names rest (walked s.rules names w word) p.1 (turn_starts names w word p.0 g)

  -- if a level of the parse gives no kind, each of its rows starts
  pub level_starts : (names : Names) (words : List Text) (has_subcommand : Bool) (below : Kinds)
      → level_fault s names nothing_held words has_subcommand below ≡ []
      → AllStart Q (finished s.rules (walk s.rules names nothing_held words).held)
  level_starts names words has_subcommand below e =
      let end = (walk s.rules names nothing_held words).held in
      let parts = level_parts s names words has_subcommand below e in
      defaults_start Q s.rules (settled s.rules end).rows by
      (settled_starts end parts.settles
      (walk_starts names words (walk_from nothing_held) parts.walks tt))
