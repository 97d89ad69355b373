use Rattle.std.proofs.Common.{◌≡◌, Some, arith}
use Rattle.cd_script.specs.Hex.{hex_bytes}
use Rattle.cd_script.proofs.HexLemmas.{hex_spells, length-hex_bytes}
use Rattle.cd_script.proofs.hex_word.HexWord.len.Goals as goal

pub returns : goal.returns
returns c =
    let spelled : hex_bytes c.self.inside.digits.now ≡ Some c.args.self.now =
    hex_spells _ _ c.self.invariant c.self.view_is in
    omega (arith, length-hex_bytes _ _ spelled)
