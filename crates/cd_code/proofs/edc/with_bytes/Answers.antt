use Rattle.std.proofs.Common.{◌≡◌, ℕ, ◌+◌, ◌*◌, ◌/◌, ◌%◌, List, ◌∷◌, [], ◌++◌, length, take, drop, get_or, ap, ◌∙◌, arith, append_assoc, append-nil}
use Rattle.std.proofs.lemmas.List.{take_more, take_all, get_or-drop}
use Rattle.cd_code.proofs.general.Lists.{get_or-first_chunks, take-chunks}
use Rattle.cd_code.proofs.edc.with_bytes.Goals as goal

pub loop-eight-init : goal.loop-eight-init
loop-eight-init c = λ v h. rw append-nil h

pub loop-eight-preserved : goal.loop-eight-preserved
loop-eight-preserved c = λ v h.
    let b = c.args.bytes.now in
    let i = c.loop-eight.eight-index in
    let chunk_is : (d : List ℕ) → get_or c.as_chunks.result.0.now i d ≡ take 8 (drop (i * 8) b) =
    λ d. ap (λ z. get_or z i d) c.as_chunks.ensures.front
    ∙ get_or-first_chunks 8 (length b / 8) b d i (omega (arith, c.as_chunks.ensures.front_len)) in
    rw (take-chunks 8 i b, ← append_assoc v (take (i * 8) b) (take 8 (drop (i * 8) b)))
    (rw chunk_is at (c.with_eight-word.ensures (v ++ take (i * 8) b) (c.loop-eight.invariant v h)))

pub loop-byte-preserved : goal.loop-byte-preserved
loop-byte-preserved c = λ v h.
    let b = c.args.bytes.now in
    let n = length b / 8 * 8 in
    let i = c.loop-byte.byte-index in
    let left : length c.as_chunks.result.1.now ≡ length b % 8 = c.as_chunks.ensures.back_len in
    let byte_is : get_or c.as_chunks.result.1.now i 0 ≡ get_or b (n + i) 0 =
    ap (λ z. get_or z i 0) c.as_chunks.ensures.back ∙ get_or-drop n b i 0 in
    let longer : take (n + (i + 1)) b ≡ take (n + i) b ++ get_or b (n + i) 0 ∷ [] =
    (let e : n + (i + 1) ≡ n + i + 1 = omega arith in ap (λ k. take k b) e)
    ∙ take_more b (n + i) 0 (omega arith) in
    rw (longer, ← append_assoc v (take (n + i) b) (get_or b (n + i) 0 ∷ []))
    (rw byte_is at (c.with_byte-word.ensures (v ++ take (n + i) b) (c.loop-byte.invariant v h)))

pub returns : goal.returns
returns c = λ v h.
    let b = c.args.bytes.now in
    let i = c.loop-byte.byte-index in
    let left = c.as_chunks.ensures.back_len in
    let all : take (length b / 8 * 8 + i) b ≡ b = take_all (length b / 8 * 8 + i) b (omega arith) in
    rw all at (c.loop-byte.invariant v h)
