-- Working: A sheet of claims: ten columns one behind the other, each with a number for every place that a claim may stand at. It is shaped for the
-- code; what it says of the claims is proved in SheetLaws (`column_natural`, `sheet_claims`).
use Rattle.std.specs.Prelude.{◌&&◌, cond, List, [], ◌∷◌, map, ℕ, suc, ◌+◌, ◌*◌, ◌/◌, ◌%◌, eqb, leb, ltb, length, take, drop, get_or, set, replicate}
use Rattle.lists.specs.Lists.{counted}
use Rattle.register.specs.Limits.{claim_limit, moment_end}
use Rattle.register.specs.Register.{claims_of}
use Rattle.register.specs.declared.Claim.{Claim}
use Rattle.register.specs.declared.Claims.{Claims}

-- how many numbers a sheet has, and its last column
abbrev pub sheet_limit : ℕ
sheet_limit = 2560

abbrev pub last_column : ℕ
last_column = 9

-- the columns, by what each has of a claim; an expiry takes two, its low and its high 32 bits
abbrev pub id_column : ℕ
id_column = 0

abbrev pub parent_column : ℕ
parent_column = 1

abbrev pub grantor_column : ℕ
grantor_column = 2

abbrev pub holder_column : ℕ
holder_column = 3

abbrev pub resource_column : ℕ
resource_column = 4

abbrev pub rights_column : ℕ
rights_column = 5

abbrev pub weight_column : ℕ
weight_column = 6

abbrev pub expiry_column : ℕ
expiry_column = 7

abbrev pub late_column : ℕ
late_column = 8

abbrev pub left_column : ℕ
left_column = 9

-- a column of a sheet: nothing where the sheet is too short, or has no such column
unfoldable pub column_of : ℕ → List ℕ → List ℕ
column_of j s = cond (leb sheet_limit (length s) && leb j last_column) (take claim_limit (drop (j * claim_limit) s)) []

-- the claim that has a number f in each column; of each claim these are `numbers_of` it (`claim_numbers_lem` of SheetLaws)
abbrev pub claim_of : (ℕ → ℕ) → Claim
claim_of f = record {
  id = f id_column;
  parent = f parent_column;
  grantor = f grantor_column;
  holder = f holder_column;
  resource = f resource_column;
  rights = f rights_column;
  weight = f weight_column;
  left = f left_column;
  expiry = f expiry_column + moment_end * f late_column;
}

-- what each column has of a claim
abbrev pub numbers_of : Claim → List ℕ
numbers_of c =
    c.id
    ∷ c.parent
    ∷ c.grantor
    ∷ c.holder
    ∷ c.resource
    ∷ c.rights
    ∷ c.weight
    ∷ (c.expiry % moment_end)
    ∷ (c.expiry / moment_end)
    ∷ c.left
    ∷ []

-- the claim at a place of a sheet: all zeros past its end
abbrev pub claim_at : List ℕ → ℕ → Claim
claim_at s i = claim_of (λ j. get_or (column_of j s) i 0)

-- the claims at all places of a sheet
unfoldable pub claims_in : List ℕ → List Claim
claims_in s = map (claim_at s) (counted 0 claim_limit)

-- numbers put at place i, one into each column from the column j on
abbrev pub numbers_put : List ℕ → ℕ → ℕ → List ℕ → List ℕ
numbers_put s i j [] = s
numbers_put s i j (x ∷ xs) = numbers_put (set s (j * claim_limit + i) x) i (suc j) xs

-- a claim put at place i, and claims put from place i on
unfoldable pub claim_put : List ℕ → ℕ → Claim → List ℕ
claim_put s i c = numbers_put s i 0 (numbers_of c)

unfoldable pub claims_put : List ℕ → ℕ → List Claim → List ℕ
claims_put s i [] = s
claims_put s i (c ∷ cs) = claims_put (claim_put s i c) (i + 1) cs

-- a claim taken apart into its numbers at a place of a sheet: a list of another length, or a sheet without that place, is left as it is
unfoldable pub taken_apart : List ℕ → ℕ → Claim → List ℕ
taken_apart s i c = cond (eqb (length s) sheet_limit && ltb i claim_limit) (claim_put s i c) s

-- a sheet with claims put from its first place on; a list of another length is left as it is
unfoldable pub sheet_with : List ℕ → List Claim → List ℕ
sheet_with s cs = cond (eqb (length s) sheet_limit) (claims_put s 0 cs) s

-- the sheet of a list of claims
abbrev pub sheet_of : Claims → List ℕ
sheet_of k = sheet_with (replicate sheet_limit 0) (claims_of k)
