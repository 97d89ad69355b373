-- The texts for the results of calls of C.
use Rattle.std.specs.Prelude.{ℕ, ◌==◌, if◌then◌else◌, List, [], codes}
use Rattle.cd_c.specs.Results.{damaged, done, not_mode1, out_of_range}

-- the words for a result, the last three only for a patch; empty for any other number
unfoldable pub result_text : ℕ → List ℕ
result_text result =
    if result == done then codes "done"
    else if result == not_mode1 then codes "the sector is not a Mode 1 sector"
    else if result == damaged then codes "the sector is damaged"
    else if result == out_of_range then codes "the bytes are not within the user data"
    else if result == 4 then codes "the image has no such block"
    else if result == 5 then codes "the old bytes differ"
    else if result == 6 then codes "the record is not one of a patch"
    else []
