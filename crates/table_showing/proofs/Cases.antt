-- The numbers of a small register's table, by computing: folders in folders, a public resource, a machine with its owner, a claim without weight, one that
-- has expired and one whose source is dead. Assumes nothing.
use Rattle.std.proofs.Common.{◌≡◌, refl, true, false, [], ◌∷◌, map, ℕ, ◌^◌, take, drop}
use Rattle.lists.specs.Lists.{same}
use Rattle.paths.specs.Containment.{components, climbing, trimmed, starting, contained, reached}
use Rattle.rights.specs.Rights.{has_right}
use Rattle.register.specs.declared.Claim.{Claim}
use Rattle.register.specs.declared.Register.{Register}
use Rattle.gate_rules.specs.Gate.{contains, first_of, reach_of}
use Rattle.coverage_table.specs.Table.{paper_of, cover_table, speaks, table_owner}
use Rattle.table_showing.specs.Shown.{remark_number, rows_numbers, owner_shown, owner_rows, remarks_shown, table_tests}

abbrev claim : ℕ → ℕ → ℕ → ℕ → ℕ → ℕ → ℕ → Claim
claim id parent holder resource rights weight expiry =
    record { id = id; parent = parent; grantor = 1; holder = holder; resource = resource; rights = rights; weight = weight; left = 0; expiry = expiry }

-- human 1 keeps all, machine 2 is theirs; 10 is site/a, 11 is site and public; 4 has expired at 1,999, 5 is drawn from it, and 6 has no weight
bench : Register
bench = record {
  actors = record { list = record { id = 1; kind = 1; owner = 0 } ∷ record { id = 2; kind = 2; owner = 1 } ∷ []; count = 2 };
  resources = record {
    list = record { id = 10; public = 0; keeper = 1; len = 6; path = 115 ∷ 105 ∷ 116 ∷ 101 ∷ 47 ∷ 97 ∷ [] }
        ∷ record { id = 11; public = 1; keeper = 1; len = 4; path = 115 ∷ 105 ∷ 116 ∷ 101 ∷ [] }
        ∷ [];
    count = 2;
  };
  claims = record {
    list = claim 1 0 1 10 19 600 0 ∷ claim 2 1 2 10 1 600 2000 ∷ claim 3 0 2 11 3 600 0 ∷ claim 4 0 1 10 21 600 1000 ∷ claim 5 4 2 10 5 600 0
        ∷ claim 6 0 2 10 4 0 1000 ∷ [];
    count = 6;
  };
  version = 1;
}

-- hop counts and states, in register order
hops_told_lem : map (λ n. n.hops) (remarks_shown bench 2 1999) ≡ 0 ∷ 1 ∷ 0 ∷ 0 ∷ 1 ∷ 0 ∷ []
unfolding bench paper_of first_of
hops_told_lem = refl

states_told : map (remark_number 1999) (remarks_shown bench 2 1999) ≡ 1 ∷ 1 ∷ 1 ∷ 3 ∷ 4 ∷ 2 ∷ []
unfolding bench paper_of first_of
states_told = refl

-- the machine reads site/a by its claim there and writes it by the one on the folder; nothing else
own_cells : take 3 (rows_numbers bench (cover_table bench 1999 2)) ≡ 1 ∷ 2 ∷ 257 ∷ []
unfolding bench paper_of first_of speaks has_right contains reach_of reached contained climbing components same trimmed starting
own_cells = refl

-- its owner has the first claim on site/a; the folder is public to read, and no more
owner_cells : take 3 (rows_numbers bench (owner_rows bench 1999 (table_owner bench 2))) ≡ 0 ∷ 0 ∷ 257 ∷ []
unfolding bench paper_of first_of speaks has_right contains reach_of reached contained climbing components same trimmed starting
owner_cells = refl

owner_public : take 2 (drop 17 (rows_numbers bench (owner_rows bench 1999 (table_owner bench 2)))) ≡ 256 ∷ 257 ∷ []
unfolding bench paper_of first_of speaks has_right contains reach_of reached contained climbing components same trimmed starting
owner_public = refl

owners_told : (owner_shown (table_owner bench 2) ≡ 1) × (owner_shown (table_owner bench 1) ≡ 0)
unfolding bench first_of
owners_told = (refl, refl)

-- tests 2 and 3: a number past 65,535, a moment past the last, an actor that does not stand
tests_told : (map (λ t. t.passed) (drop 1 (table_tests bench 2 1999)) ≡ true ∷ true ∷ [])
    × (map (λ t. t.passed) (drop 1 (table_tests bench 3 1999)) ≡ true ∷ false ∷ [])
    × (map (λ t. t.passed) (drop 1 (table_tests bench 65536 1999)) ≡ false ∷ false ∷ [])
    × (map (λ t. t.passed) (drop 1 (table_tests bench 2 (2 ^ 32))) ≡ false ∷ true ∷ [])
unfolding bench table_tests
tests_told = (refl, refl, refl, refl)
