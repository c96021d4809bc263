-- Names: how a byte of one is shown, and what an argument asks for.
use Rattle.std.specs.Prelude.{ℕ, Bool, true, false, cond, ◌||◌, List, [], ◌∷◌, eqb, ltb, get_or, Result, Ok, Err}
use Rattle.std.specs.Str.{bytes_eq}
use Rattle.std.specs.declared.env.FillError.{FillError}
use Rattle.std.specs.declared.env.FillError.TheVariants.{NotPresent, TooLong}
use Prim.Native.Char.{code}
use Prim.Native.String.{String, [] as «end», ◌∷◌ as ◌then◌}
use Rattle.file_bytes.specs.declared.names.Asked.{Asked}

-- a control byte is shown as `?`, so that none in a folder's name ends its field or the row
abbrev pub clean : ℕ → ℕ
clean byte = cond (ltb byte 32 || eqb byte 127) 63 byte

-- a text in bytes
abbrev pub ascii : String → List ℕ
ascii «end» = []
ascii (c then text) = code c ∷ ascii text

abbrev pub same_bytes : List ℕ → List ℕ → Bool
same_bytes xs ys = bytes_eq xs ys

abbrev pub is_help : List ℕ → Bool
is_help argument = same_bytes argument (ascii "-h") || same_bytes argument (ascii "--help")

abbrev pub is_version : List ℕ → Bool
is_version argument = same_bytes argument (ascii "--version")

-- what begins with `-` is no folder
unfoldable pub asked_for : List ℕ → Asked
asked_for argument =
    cond (is_help argument) Asked.Help
    (cond (is_version argument) Asked.Version (cond (eqb (get_or argument 0 0) 45) Asked.Unknown Asked.Folder))

-- what the system says of an argument that is not given: it is not present. One that is given may be too long for the room
abbrev pub is_given : Result ℕ FillError → Bool
is_given (Ok n) = true
is_given (Err TooLong) = true
is_given (Err NotPresent) = false
