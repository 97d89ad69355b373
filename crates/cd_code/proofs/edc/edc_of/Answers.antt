use Rattle.std.proofs.Common.{◌≡◌, ℕ, ◌*◌, ◌/◌, List, [], ◌++◌, length, take, drop, get_or, ap, ◌∙◌, arith}
use Rattle.std.proofs.lemmas.List.{take-append-drop}
use Rattle.cd_code.specs.Edc.{IsEdc}
use Rattle.cd_code.proofs.EdcLemmas.{IsEdc-nil, IsEdc-same_front, IsEdc-unique}
use Rattle.cd_code.proofs.general.Lists.{get_or-first_chunks, take-chunks}
use Rattle.cd_code.proofs.edc.edc_of.Goals as goal

pub loop-block-preserved : goal.loop-block-preserved
loop-block-preserved c =
    let b = c.args.bytes.now in
    let i = c.loop-block.block-index in
    let chunk_is : (d : List ℕ) → get_or c.as_chunks.result.0.now i d ≡ take 64 (drop (i * 64) b) =
    λ d. ap (λ z. get_or z i d) c.as_chunks.ensures.front
    ∙ get_or-first_chunks 64 (length b / 64) b d i (omega (arith, c.as_chunks.ensures.front_len)) in
    rw (take-chunks 64 i b)
    (rw chunk_is at (c.with_block-folded.ensures (take (i * 64) b) c.loop-block.invariant))

is_word : (c : goal.After-with_bytes-3) → IsEdc c.args.bytes.now c.with_bytes-3.result
is_word c =
    let b = c.args.bytes.now in
    let i = c.loop-block.block-index in
    let rest = c.as_chunks.result.1.now in
    let halves = c.halves.result.0 ++ c.halves.result.1 in
    let last : length b / 64 * 64 ≡ i * 64 =
    (let e : length b / 64
    ≡ i = omega (arith, c.as_chunks.ensures.front_len) in ap (λ k. k * 64) e) in
    let whole : take (i * 64) b ++ rest ≡ b =
    ap (λ z. take (i * 64) b ++ z) (c.as_chunks.ensures.back ∙ ap (λ k. drop k b) last)
    ∙ take-append-drop (i * 64) b in
    IsEdc-same_front (take (i * 64) b) halves rest b c.with_bytes-3.result
    (c.halves.ensures (take (i * 64) b) c.loop-block.invariant) whole
    (c.with_bytes-3.ensures halves
    (c.with_bytes-2.ensures c.halves.result.0 (c.with_bytes.ensures [] IsEdc-nil)))

pub returns-clause-unique : goal.returns-clause-unique
returns-clause-unique c = λ w h. IsEdc-unique c.args.bytes.now w c.with_bytes-3.result h (is_word c)

pub returns-clause-word : goal.returns-clause-word
returns-clause-word c = is_word c
