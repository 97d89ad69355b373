-- The steps of a run, whoever reads and writes.
use Rattle.std.proofs.Common.{◌≡◌, ℕ, ◌+◌, ◌-◌, ◌*◌, ◌<◌, ◌≤◌, ◌⊎◌, inl, inr, Bool, true, false, List, [], ◌∷◌, ◌++◌, length, get_or, Option, None, Some, refl, sym, ap, ◌∙◌, subst, arith, append_assoc, length-append}
use Rattle.std.proofs.lemmas.List.{nil_from_length}
use Rattle.std.specs.Prelude.{All, IsSome, cond}
use Rattle.std.specs.List.Sorted.{IsNonDecreasingBy}
use Rattle.std.proofs.lemmas.List.Elements.{All-append, All-nil, All-push, All-tail}
use Rattle.cd_script.specs.Patch.{IsPatch}
use Rattle.cd_script.specs.PatchForm.{Patch}
use Rattle.cd_sector.specs.declared.sector.TheConstants.{SECTOR_SIZE}
use Rattle.cd_patch.specs.Blocks.{block_limit, blocks_met}
use Rattle.cd_patch.specs.Deciding.{outcome}
use Rattle.cd_patch.specs.Effect.{Effect, EffectOf}
use Rattle.cd_patch.specs.Outcome.{is_applied}
use Rattle.cd_patch.specs.Sequence.{PatchSequence}
use Rattle.cd_patch.specs.declared.outcome.Outcome.{Outcome}
use Rattle.cd_patch.proofs.FrameLemmas.{Effect-frame, Effect-length, Effect-missing, outcome-frame, outcome-missing}
use Rattle.cd_patch.proofs.RangeLemmas.{blocks_met-most}
use Rattle.cd_patch.proofs.SequenceLemmas.{PatchSequence-append, PatchSequence-lengths}
use Rattle.cd_sector.specs.Image.{image_limit, sector_limit}
use Rattle.cd_sector.proofs.general.Counts.{count_by_push}
use Rattle.cd_run.proofs.BytesLemmas.{AreSized, AreSized-more}
use Rattle.cd_run.specs.Running.{Reached}

-- ---- the next step

-- the blocks are in ascending order from the first patch on
pub rises_from : (left others : List Patch) (p : Patch) → left ≡ p ∷ others
    → IsNonDecreasingBy (λ q. q.block) left → All (λ q. p.block ≤ q.block) left
rises_from left others p is rising = λ k d inside.
    let first : get_or left 0 d ≡ p = ap (λ (l : List Patch). get_or l 0 d) is in
    let rises = rising 0 k d (omega arith) (omega arith) in
    omega (arith, ap (λ (q : Patch). q.block) first)

-- ---- before the first step

pub Reached-start : (carry : Bool) (left : List Patch) (base : ℕ)
    → Reached carry [] left base [] [] [] [] base 0 0 None false
Reached-start carry left base = record {
  seen_sizes = All-nil (λ t. length t ≡ SECTOR_SIZE);
  done_sizes = All-nil (λ t. length t ≡ SECTOR_SIZE);
  counts = omega arith;
  run = λ more unended. refl;
  due = λ unclosed. All-nil (λ (p : Patch). (p.block ≤ base) × (p.block < base + 0));
  ahead = inl (refl, refl);
  reached = λ unended. All-nil (λ (p : Patch). p.block + blocks_met p ≤ base + sector_limit);
  closes = λ never. cc;
}

-- ---- steps

module _ {carry : Bool} {taken left : List Patch} {base : ℕ} {seen done window : List (List ℕ)}
    {outcomes : List Outcome} {block sectors applied : ℕ}
    (ahead : All (λ p. block ≤ p.block) left)
    (g : Reached carry taken left base seen done window outcomes block sectors applied None false) where
  -- a sector was read
  pub Reached-sector : (came : List ℕ) → length came ≡ SECTOR_SIZE → length window < block_limit
      → sectors < sector_limit
      → Reached carry taken left base (seen ++ came ∷ []) done (window ++ came ∷ []) outcomes block
      (sectors + 1) applied None false
  Reached-sector came size room few = record {
    seen_sizes = AreSized-more seen came g.seen_sizes size;
    done_sizes = g.done_sizes;
    counts =
        omega (arith, length-append seen (came ∷ []), length-append window (came ∷ []));
    run = λ more unended. simp append_assoc (g.run (came ∷ more) (λ never. cc));
    due = λ unclosed k d inside. let h = g.due refl k d inside in omega arith;
    ahead = inr ahead;
    reached = g.reached;
    closes = λ never. cc;
  }

  -- less than a sector was read, and nothing is left
  pub Reached-end : (came : List ℕ) → length came < SECTOR_SIZE → length window < block_limit
      → SECTOR_SIZE * sectors + length came ≤ image_limit
      → Reached carry taken left base seen done window outcomes block sectors applied (Some came)
      false
  Reached-end came short room within = record {
    seen_sizes = g.seen_sizes;
    done_sizes = g.done_sizes;
    counts = omega arith;
    run = λ more unended. g.run more (λ never. cc);
    due = g.due;
    ahead = inr ahead;
    reached = λ never. cc;
    closes = λ never. cc;
  }

-- sectors that no patch meets were read and sent
pub Reached-copied : {carry : Bool} {taken left : List Patch} {base : ℕ}
    {seen done : List (List ℕ)} {outcomes : List Outcome} {block sectors applied : ℕ}
    (count : ℕ) (more : List (List ℕ))
    → Reached carry taken left base seen done [] outcomes block sectors applied None false
    → All (λ p. block + count ≤ p.block) left → AreSized more → length more ≡ count
    → sectors + count ≤ sector_limit
    → Reached carry taken left base (seen ++ more) (done ++ more) [] outcomes (block + count)
    (sectors + count) applied None false
Reached-copied {seen = seen} {done = done} count more g ahead sized size few = record {
  seen_sizes = All-append (λ t. length t ≡ SECTOR_SIZE) seen more g.seen_sizes sized;
  done_sizes = All-append (λ t. length t ≡ SECTOR_SIZE) done more g.done_sizes sized;
  counts = omega (arith, length-append seen more, length-append done more);
  run = λ others unended. simp append_assoc (g.run (more ++ others) (λ never. cc));
  due = λ unclosed k d inside. let h = g.due refl k d inside in omega arith;
  ahead = inr ahead;
  reached = g.reached;
  closes = λ never. cc;
}

-- the first sector in hand was sent, and no remaining patch begins there
pub Reached-sent : {carry : Bool} {taken left : List Patch} {base : ℕ}
    {seen done window : List (List ℕ)} {sector : List ℕ} {outcomes : List Outcome}
    {block sectors applied : ℕ} {tail : Option (List ℕ)}
    → Reached carry taken left base seen done (sector ∷ window) outcomes block sectors applied tail
    false
    → length sector ≡ SECTOR_SIZE → All (λ p. block < p.block) left
    → Reached carry taken left base seen (done ++ sector ∷ []) window outcomes (block + 1) sectors
    applied tail false
Reached-sent {done = done} {sector = sector} g size ahead = record {
  seen_sizes = g.seen_sizes;
  done_sizes = AreSized-more done sector g.done_sizes size;
  counts = omega (arith, length-append done (sector ∷ []));
  run = λ more unended. rw append_assoc (g.run more unended);
  due = λ unclosed k d inside. let h = g.due refl k d inside in omega arith;
  ahead = inr (λ k d inside. let h = ahead k d inside in omega arith);
  reached = g.reached;
  closes = λ never. cc;
}

-- ---- a patch is decided

pub never_some : {A : Type 0} (o : Option (List ℕ)) → o ≡ None → IsSome o → A
never_some None none some = absurd cc
never_some (Some bytes) none some = absurd cc

-- why a patch can be decided, in terms of lists
pub data Decidable (p : Patch) (window : List (List ℕ)) (block sectors : ℕ)
    (tail : Option (List ℕ)) (closed : Bool) : Type 0 where
  at_front : p.block ≡ block → 0 < length window → closed ≡ false
      → (blocks_met p ≤ length window) ⊎ IsSome tail → Decidable p window block sectors tail closed
  under_base : p.block < block → sectors ≡ 0 → tail ≡ None → closed ≡ false
      → Decidable p window block sectors tail closed
  past_tail : closed ≡ true → block ≤ p.block → Decidable p window block sectors tail closed

module _ {carry : Bool} {taken : List Patch} {p : Patch} {left : List Patch} {base : ℕ}
    {seen done window : List (List ℕ)} (window' : List (List ℕ)) {outcomes : List Outcome}
    (o : Outcome) {block sectors applied : ℕ} {tail : Option (List ℕ)} {closed : Bool}
    (g : Reached carry taken (p ∷ left) base seen done window outcomes block sectors applied tail
    closed)
    (decided : o ≡ outcome carry window block p) (effect : Effect carry block p window window')
    (patch : IsPatch p) where
  same_length : length window' ≡ length window
  same_length = Effect-length carry block p window window' effect

  lengths : length outcomes ≡ length taken
  lengths = PatchSequence-lengths _ _ _ _ _ _ (g.run [] (λ some. refl))

  -- one more patch, by its outcome and its effect on all sectors
  run_more : (more : List (List ℕ)) → (IsSome tail → more ≡ [])
      → o ≡ outcome carry (done ++ (window ++ more)) base p
      → Effect carry base p (done ++ (window ++ more)) (done ++ (window' ++ more))
      → PatchSequence carry (taken ++ p ∷ []) (outcomes ++ o ∷ []) base (seen ++ more)
      (done ++ (window' ++ more))
  run_more more unended is makes =
      PatchSequence-append carry taken (p ∷ []) outcomes (o ∷ []) base _
      (done ++ (window ++ more)) (done ++ (window' ++ more)) (g.run more unended)
      (record { decided = is; next = done ++ (window' ++ more); effect = makes; others = refl })

  -- a patch whose first block is missing, both at the front block and among all sectors
  missing : (more : List (List ℕ)) → (IsSome tail → more ≡ [])
      → (p.block < block) ⊎ (block + length window ≤ p.block)
      → (p.block < base) ⊎ (base + length (done ++ (window ++ more)) ≤ p.block)
      → PatchSequence carry (taken ++ p ∷ []) (outcomes ++ o ∷ []) base (seen ++ more)
      (done ++ (window' ++ more))
  missing more unended here there =
      let same : window' ≡ window =
      subst (λ u. EffectOf carry u block p window window') (outcome-missing carry window block p here)
      effect in
      run_more more unended
      (decided ∙ outcome-missing carry window block p here
      ∙ sym (outcome-missing carry (done ++ (window ++ more)) base p there))
      (subst (λ w. Effect carry base p (done ++ (window ++ more)) (done ++ (w ++ more))) (sym same)
      (Effect-missing carry (done ++ (window ++ more)) base p there))

  pub Reached-decided : Decidable p window block sectors tail closed
      → Reached carry (taken ++ p ∷ []) left base seen done window' (outcomes ++ o ∷ []) block
      sectors (applied + cond (is_applied o) 1 0) tail closed
  Reached-decided (Decidable.at_front first some unclosed reach) = record {
    seen_sizes = g.seen_sizes;
    done_sizes = g.done_sizes;
    counts = omega (arith, same_length, count_by_push is_applied outcomes o);
    run = λ more unended.
        run_more more unended
        (decided
        ∙ sym (outcome-frame carry done window more base block p g.counts.front
        (omega arith) (reaches more unended)))
        (Effect-frame carry done window window' more base block p g.counts.front
        (omega arith) (reaches more unended) effect);
    due = λ unclosed.
        All-push (λ q. (q.block ≤ block) × (q.block < base + sectors)) taken p (g.due unclosed)
        (omega arith);
    ahead = elim g.ahead [
      | inl begun ↦ absurd (omega (arith, begun.0))
      | inr ahead ↦ inr (All-tail (λ q. block ≤ q.block) p left ahead)
    ];
    reached = λ unended.
        All-push (λ q. q.block + blocks_met q ≤ base + sector_limit) taken p
        (g.reached unended) (elim reach [
          | inl within ↦ omega arith
          | inr ended ↦ cc
        ]);
    closes = λ closed. absurd cc;
  }
    where
      reaches : (more : List (List ℕ)) → (IsSome tail → more ≡ [])
          → (p.block + blocks_met p ≤ block + length window) ⊎ (more ≡ [])
      reaches more unended =
          elim reach [ inl within ↦ inl (omega arith) | inr some ↦ inr (unended some) ]
  Reached-decided (Decidable.under_base under none unended unclosed) = record {
    seen_sizes = g.seen_sizes;
    done_sizes = g.done_sizes;
    counts = omega (arith, same_length, count_by_push is_applied outcomes o);
    run = λ more unended. missing more unended (inl under) (inl (omega arith));
    due = λ unclosed.
        All-push (λ q. (q.block ≤ block) × (q.block < base + sectors)) taken p (g.due unclosed)
        (omega arith);
    ahead = inl (none, unended);
    reached = λ unended.
        All-push (λ q. q.block + blocks_met q ≤ base + sector_limit) taken p
        (g.reached unended) (omega (arith, blocks_met-most p patch));
    closes = λ closed. absurd cc;
  }
  Reached-decided (Decidable.past_tail gone from) = record {
    seen_sizes = g.seen_sizes;
    done_sizes = g.done_sizes;
    counts = omega (arith, same_length, count_by_push is_applied outcomes o);
    run = λ more unended.
        let none = unended closes.1 in
        missing more unended (inr (omega (arith, ap length closes.0)))
        (inr (omega (arith, ap length closes.0, ap length none, length-append {A = List ℕ})));
    due = λ unclosed. absurd cc;
    ahead = elim g.ahead [
      | inl begun ↦ never_some tail begun.1 closes.1
      | inr ahead ↦ inr (All-tail (λ q. block ≤ q.block) p left ahead)
    ];
    reached = λ unended. never_some tail unended closes.1;
    closes = λ closed. (none_left, closes.1);
  }
    where
      closes : (window ≡ []) × IsSome tail
      closes = g.closes gone

      none_left : window' ≡ []
      none_left = nil_from_length window' (same_length ∙ ap length closes.0)
