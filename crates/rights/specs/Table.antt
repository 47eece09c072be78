-- Believed: The code's table of the seventeen rights, as the theorems speak of it: what each right is worth, and whether a machine may grant it.
use Rattle.std.specs.Prelude.{Bool, true, false, List, [], ◌∷◌, ℕ}
use Rattle.rights.specs.declared.Right.{Right}

abbrev row : ℕ → Bool → Right
row w m = record { worth = w; machine = m }

-- what is read past the table
abbrev pub no_row : Right
no_row = row 0 false

-- the code's table: the checks of `worth`, `machine_grants` and `bars_machine` hold it to the source
abbrev pub the_table : List Right
the_table =
    row 1 true ∷ row 2 true ∷ row 4 true ∷ row 8 true ∷ row 16 true ∷ row 32 true
    ∷ row 64 true ∷ row 128 true ∷ row 256 true ∷ row 512 true ∷ row 1024 true ∷ row 2048 true
    ∷ row 4096 true ∷ row 8192 false ∷ row 16384 true ∷ row 32768 false ∷ row 65536 false ∷ []
