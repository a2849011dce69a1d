-- What the program's own types stand for in the definitions.
use Rattle.sz_device.specs.View.{init_words, onboard_words}
use Rattle.sz_keys.specs.View.{keygen_words, paths_of, sign_words}
use Rattle.sz_program.specs.Words as spec
use Rattle.sz_program.specs.declared.command.Command.{Command}
use Rattle.sz_program.specs.declared.command.Command.TheVariants.{Check, Keygen, Sign, Init, Onboard, Show, Audit}

abbrev pub command_of : Command → spec.Command
command_of (Check paths) = spec.Check (paths_of paths)
command_of (Keygen words) = spec.Keygen (keygen_words words)
command_of (Sign words) = spec.Sign (sign_words words)
command_of (Init words) = spec.Init (init_words words)
command_of (Onboard words) = spec.Onboard (onboard_words words)
command_of (Show disk) = spec.Show disk
command_of (Audit disk) = spec.Audit disk
