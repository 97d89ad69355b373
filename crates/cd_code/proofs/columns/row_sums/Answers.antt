use Rattle.std.proofs.Common.{◌≡◌, ℕ, ◌<◌, ◌≤◌, inl, inr, List, length, get_or, bit_xor, ap, ◌∙◌, arith}
use Rattle.std.proofs.lemmas.Bool.{cases_lt}
use Rattle.cd_code.specs.Field.{double}
use Rattle.cd_code.proofs.columns.row_sums.Goals as goal

-- a row that is added in three parts, none of which changes the sums of the other parts
in_three_parts : (f : ℕ → ℕ) (old one two new row : List ℕ) → length row ≡ 86
    → ((c : ℕ) → 0 ≤ c → c < 32 → get_or one c 0 ≡ bit_xor (f (get_or old c 0)) (get_or row c 0))
    → ((c : ℕ) → 32 ≤ c → get_or one c 0 ≡ get_or old c 0)
    → ((c : ℕ) → 32 ≤ c → c < 64 → get_or two c 0 ≡ bit_xor (f (get_or one c 0)) (get_or row c 0))
    → ((c : ℕ) → c < 32 → get_or two c 0 ≡ get_or one c 0)
    → ((c : ℕ) → 64 ≤ c → get_or two c 0 ≡ get_or one c 0)
    → ((c : ℕ) → 64 ≤ c → c < length row
    → get_or new c 0 ≡ bit_xor (f (get_or two c 0)) (get_or row c 0))
    → ((c : ℕ) → c < 64 → get_or new c 0 ≡ get_or two c 0)
    → (c : ℕ) → c < 86 → get_or new c 0 ≡ bit_xor (f (get_or old c 0)) (get_or row c 0)
in_three_parts f old one two new row long front front_above middle middle_below middle_above back
    back_below c h =
    elim (cases_lt c 64) [
      | inl low ↦ elim (cases_lt c 32) [
        | inl least ↦ back_below c low ∙ middle_below c least ∙ front c (omega arith) least
        | inr mid ↦
            back_below c low ∙ middle c mid low
            ∙ ap (λ n. bit_xor (f n) (get_or row c 0)) (front_above c mid)
      ]
      | inr high ↦
          back c high (omega (arith, long))
          ∙ ap (λ n. bit_xor (f n) (get_or row c 0))
          (middle_above c high ∙ front_above c (omega arith))
    ]

pub returns-clause-plain : goal.returns-clause-plain
returns-clause-plain c =
    let one = c.add_lanes.ensures in
    let two = c.add_lanes-2.ensures in
    in_three_parts (λ n.
    n) c.args.sums.now.plain c.add_lanes.new.sums c.add_lanes-2.new.sums c.add_rest.new.plain
    c.args.row.now c.told-row
    one.added one.above two.added two.below two.above c.add_rest.ensures.plain
    c.add_rest.ensures.plain_below

pub returns-clause-weighted : goal.returns-clause-weighted
returns-clause-weighted c =
    let one = c.double_and_add_lanes.ensures in
    let two = c.double_and_add_lanes-2.ensures in
    in_three_parts double c.args.sums.now.weighted c.double_and_add_lanes.new.sums
    c.double_and_add_lanes-2.new.sums c.add_rest.new.weighted c.args.row.now c.told-row
    one.added one.above two.added two.below two.above c.add_rest.ensures.weighted
    c.add_rest.ensures.weighted_below
