use Rattle.std.proofs.Common.{◌≡◌, rules}
use Rattle.std.specs.Option.{option_map}
use Rattle.script.specs.declared.commands.Command.TheVariants.{Mute}
use Rattle.script.proofs.Grammar.{mute_read}
use Rattle.script.proofs.parsing.parse_mute.Goals as goal

pub returns : goal.returns
returns c =
    let told : c.map.result ≡ option_map Mute c.number.result = search rules in
    rw told (mute_read c.args.rest.now c.in_ok-after_space.field-0.now c.number.result c.in_ok-after_space.ensures c.number.ensures)
