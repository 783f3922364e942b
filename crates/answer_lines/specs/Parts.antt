-- What the private parts of the writers are to give. Their own contracts cite none of this.
use Rattle.std.specs.Prelude.{ℕ, List, ◌++◌, unsigned_abs}
use Rattle.words.specs.Lists.{text}
use Rattle.decimals.specs.Decimals.{digits}
use Rattle.settings.specs.declared.Accepted.{Accepted}

-- a value behind its tab
abbrev pub value_part : ℕ → List ℕ
value_part value = text "\t" ++ digits value

-- the settings' line as the code writes it
abbrev pub values_line : Accepted → List ℕ
values_line v =
    text "0" ++ value_part v.window ++ value_part (unsigned_abs v.slacks.a) ++ value_part (unsigned_abs v.slacks.b) ++ value_part (unsigned_abs v.slacks.c) ++ text "\n"
