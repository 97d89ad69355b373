use Rattle.std.proofs.Common.{ℕ, ◌+◌, ◌*◌, List, length, sym, subst, ap, ◌∙◌, arith, refl}
use Rattle.hex.specs.Hex.{upper_digits}
use Rattle.hex.proofs.HexLemmas.{length-encode_with}
use Rattle.cd_script.specs.declared.patch.Edit.TheVariants.{Put}
use Rattle.cd_script.specs.Spelling.{edit_words, spelled_line}
use Rattle.cd_script.specs.Writing.{IsLineWritten}
use Rattle.cd_script.proofs.WritingLemmas.{few_old, length-set_line, set_written}
use Rattle.cd_script.proofs.writing.write_put.Goals as goal

pub old_size-requires : goal.old_size-requires
old_size-requires c = few_old c.args.was.now (length c.args.bytes.now) c.requires.1

pub put_old-end-requires : goal.put_old-end-requires
put_old-end-requires c =
    omega (arith, length-encode_with upper_digits c.as_slice-new.result.now)

pub put_text-requires : goal.put_text-requires
put_text-requires c =
    omega (arith, length-encode_with upper_digits c.as_slice-new.result.now)

pub returns-then-size-room : goal.returns-then-size-room
returns-then-size-room c =
    let new = c.as_slice-new.result.now in
    let size = length c.as_slice-words.result.now + 2 * length new + c.old_size.result + 1 in
    subst (λ (bytes : List ℕ).
    IsLineWritten (spelled_line (edit_words c.args.block c.args.offset (Put bytes c.args.was.now)))
    c.args.room.now c.put_text.new.room size) c.as_slice-new.ensures
    (set_written c.as_slice-words.result.now c.args.block c.args.offset new c.args.was.now
    c.old_size.result size (c.as_slice-words.ensures.bytes ∙ c.put_head-head.ensures.text)
    c.old_size.ensures.size refl _ _ _ _ _ _ _ _ _ c.put_text-new_place.ensures
    c.put_hex-old_place.ensures c.put_old-end.ensures c.put_text.ensures c.if-size-room.true)

pub returns-else-size-room : goal.returns-else-size-room
returns-else-size-room c =
    let new = c.as_slice-new.result.now in
    let size = length c.as_slice-words.result.now + 2 * length new + c.old_size.result + 1 in
    subst (λ (bytes : List ℕ).
    IsLineWritten (spelled_line (edit_words c.args.block c.args.offset (Put bytes c.args.was.now)))
    c.args.room.now c.args.room.now size) c.as_slice-new.ensures (record {
      counts =
          length-set_line c.as_slice-words.result.now c.args.block c.args.offset new c.args.was.now
          c.old_size.result size (c.as_slice-words.ensures.bytes ∙ c.put_head-head.ensures.text)
          c.old_size.ensures.size refl;
      fits = λ fit. absurd (omega (arith, fit, c.if-size-room.false));
      stays = λ _. refl;
    })
