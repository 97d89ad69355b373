use Rattle.std.proofs.Common.{List, ℕ, ◌≡◌, ◌<◌, ◌++◌, length, true, false, ap, arith, inl, inr, refl, sym, ◌∙◌}
use Rattle.std.proofs.lemmas.Bool.{cases_lt}
use Rattle.cd_script.specs.declared.words.TheConstants.{MOST_WORDS}
use Rattle.cd_script.proofs.SplitLemmas.{part-most, part_taken, words-cut, words-last, words_all, words_full}
use Rattle.cd_script.proofs.words.words.Goals as goal

pub returns-then-is_full : goal.returns-then-is_full
returns-then-is_full c =
    let cut =
    words-cut c.loop-end.rest.now c.split_at.result.0.now c.split_at.result.1.now _ c.in-Some.end
    c.in-Some.ensures c.split_at.ensures.front c.split_at.ensures.back refl in
    let so_far =
    part_taken c.loop-end.words c.push.new.self c.loop-end.rest.now c.split_at.result.0.now _ _
    c.push.ensures cut c.loop-end.invariant.0 in
    words_full MOST_WORDS c.push.new.self _ _ so_far
    (omega (
      arith,
      part-most c.loop-end.words c.push.new.self c.split_at.result.0.now c.push.ensures,
      c.loop-end.invariant.1,
      c.is_full.ensures.0 c.if-is_full.true,
    ))

pub loop-end-preserved : goal.loop-end-preserved
loop-end-preserved c =
    let cut =
    words-cut c.loop-end.rest.now c.split_at.result.0.now c.split_at.result.1.now _ c.in-Some.end
    c.in-Some.ensures c.split_at.ensures.front c.split_at.ensures.back refl in
    let so_far =
    part_taken c.loop-end.words c.push.new.self c.loop-end.rest.now c.split_at.result.0.now _ _
    c.push.ensures cut c.loop-end.invariant.0 in
    let room : length c.push.new.self < MOST_WORDS =
    elim (cases_lt (length c.push.new.self) MOST_WORDS) [
      | inl few ↦ few
      | inr full ↦
          let no : true ≡ false = sym (c.is_full.ensures.1 full) ∙ c.if-is_full.false in
          absurd cc
    ] in
    let moved =
    ap (λ (l : List (List ℕ)). c.push.new.self ++ l) c.without_spaces-rest-in-Some.ensures.words in
    (moved ∙ so_far, room)

pub returns : goal.returns
returns c =
    let are =
    c.push-2.ensures ∙ ap (λ (l : List (List ℕ)). c.loop-end.words ++ l)
    (sym (words-last c.loop-end.rest.now c.in_default.ensures)) ∙ c.loop-end.invariant.0 in
    words_all MOST_WORDS c.push-2.new.self _ are
    (omega (
      arith,
      part-most c.loop-end.words c.push-2.new.self c.loop-end.rest.now c.push-2.ensures,
      c.loop-end.invariant.1,
    ))
