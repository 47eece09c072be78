-- A register of version 1 with a chain of three, and one claim past its count, as version 2 has it. Computed. Assumes nothing.
use Rattle.std.proofs.Common.{◌≡◌, refl, [], ◌∷◌, map, ℕ}
use Rattle.register.specs.Chain.{chain}
use Rattle.register.specs.declared.Claim.{Claim}
use Rattle.register.specs.declared.Register.{Register}
use Rattle.soundness_rules.specs.Sound.{each_stored}
use Rattle.versions.specs.Versions.{as_two}

abbrev claim : ℕ → ℕ → ℕ → Claim
claim id parent left =
    record { id = id; parent = parent; grantor = 1; holder = 1; resource = 10; rights = 1; weight = 1; left = left; expiry = 0 }

abbrev register : ℕ → Register
register count = record {
  actors = record { list = []; count = 0 };
  resources = record { list = []; count = 0 };
  claims = record { list = claim 7 0 3 ∷ claim 8 7 9 ∷ claim 9 8 0 ∷ claim 5 9 4 ∷ []; count = count };
  version = 1;
}

-- what stands holds 16 less its hops, and what is past the count is as it was; a count above the limit is kept
two_told : map (λ n. (as_two (register n)).version ∷ (as_two (register n)).claims.count ∷ map (λ c. c.left) (as_two (register n)).claims.list) (3 ∷ 300 ∷ [])
    ≡ (2 ∷ 3 ∷ 16 ∷ 15 ∷ 14 ∷ 4 ∷ []) ∷ (2 ∷ 300 ∷ 16 ∷ 15 ∷ 14 ∷ 13 ∷ []) ∷ []
unfolding as_two each_stored chain
two_told = refl
