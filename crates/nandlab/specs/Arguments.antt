-- The arguments of a program, as far as they were read.
use Rattle.std.specs.Prelude.{◌≡◌, [], Result, Ok, Err, String}
use Rattle.std.specs.IoError.{error_kind}
use Rattle.std.specs.Vec.Iter.{into_iter_items}
use Rattle.std.specs.declared.alloc.Global.{Global}
use Rattle.std.specs.declared.io.Error.{Error}
use Rattle.std.specs.declared.io.ErrorKind.TheVariants.{OutOfMemory}
use Rattle.std.specs.declared.vec.IntoIter.{IntoIter}
use Rattle.nandlab.specs.Words.{Words, words_behind}

-- the arguments, of which the first is the program's name, or why they could not be read
abbrev pub Arguments : Type 0
Arguments = Result (IntoIter (String Global) Global) Error

-- the words of a call by its arguments; none where these could not be read
abbrev pub words_told : Arguments → Words
words_told (Ok args) = words_behind (into_iter_items args)
words_told (Err error) = []

-- memory ran out while the arguments were read
abbrev pub NoMemory : Error → Type 0
NoMemory error = error_kind error ≡ OutOfMemory
