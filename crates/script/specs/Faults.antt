-- What is printed of a line that can't be read.
use Rattle.std.specs.Prelude.{ℕ, List, codes}
use Rattle.script.specs.declared.call.LineFault.{LineFault}
use Rattle.script.specs.declared.call.LineFault.TheVariants.{Memory, UnknownCall, MissingWord, SurplusWord, NotANumber, NotBytes, UnknownSetting}

abbrev pub told : LineFault → List ℕ
told Memory = codes "there is no memory for it"
told UnknownCall = codes "no such call"
told MissingWord = codes "a word is missing"
told SurplusWord = codes "there is a word too many"
told NotANumber = codes "a number is expected, and not too large a one"
told NotBytes = codes "bytes in base sixteen are expected, two digits each"
told UnknownSetting = codes "a word says nothing that a row can be told"
