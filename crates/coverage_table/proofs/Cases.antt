-- The paper of a small register, by computing: folders in folders, a tie, a public resource, a machine with its owner, a dead source. Assumes nothing.
use Rattle.std.proofs.Common.{◌≡◌, refl, true, false, [], ◌∷◌, map, ℕ}
use Rattle.lists.specs.Lists.{distinct, same}
use Rattle.paths.specs.Containment.{components, climbing, trimmed, starting, contained, reached}
use Rattle.rights.specs.Rights.{has_right, has_rights, bars_machine}
use Rattle.register.specs.Chain.{chain, root_granted, circling}
use Rattle.register.specs.declared.Claim.{Claim}
use Rattle.register.specs.declared.Register.{Register}
use Rattle.soundness_rules.specs.Sound.{actor_fits, resource_fits, claim_fits, names_stand, root_kept, drawn_from, machine_may, over_chain, drawn, fresh, alone, over, acceptable, sound_claims, sound_actors, sound_resources, within_limits, sound}
use Rattle.actions.specs.Actions.{uses_of}
use Rattle.actions.specs.declared.Usage.{Usage}
use Rattle.actions.specs.declared.Action.{Action}
use Rattle.actions.specs.declared.Violation.TheVariants.{NotCovered, OwnerNotCovering}
use Rattle.gate_rules.specs.Gate.{contains, first_of, reach_of}
use Rattle.coverage_table.specs.Table.{nothing, openly, claimed, paper_of, cover_table, speaks, looked_up, tables_of, plain_uses, plain_hops}

abbrev claim : ℕ → ℕ → ℕ → ℕ → ℕ → ℕ → Claim
claim id parent holder resource rights expiry =
    record { id = id; parent = parent; grantor = 1; holder = holder; resource = resource; rights = rights; weight = 600; left = 0; expiry = expiry }

abbrev usage : ℕ → ℕ → Usage
usage resource right = record { resource = resource; right = right }

-- human 1 keeps all, machine 2 is theirs; 10 is site/a, 11 is site and public, 12 is site/a/b; 2 and 4 are on one path; 5 has expired at 1,999, and 6 is
-- drawn from it
bench : Register
bench = record {
  actors = record { list = record { id = 1; kind = 1; owner = 0 } ∷ record { id = 2; kind = 2; owner = 1 } ∷ []; count = 2 };
  resources = record {
    list = record { id = 10; public = 0; keeper = 1; len = 6; path = 115 ∷ 105 ∷ 116 ∷ 101 ∷ 47 ∷ 97 ∷ [] }
        ∷ record { id = 11; public = 1; keeper = 1; len = 4; path = 115 ∷ 105 ∷ 116 ∷ 101 ∷ [] }
        ∷ record { id = 12; public = 0; keeper = 1; len = 8; path = 115 ∷ 105 ∷ 116 ∷ 101 ∷ 47 ∷ 97 ∷ 47 ∷ 98 ∷ [] }
        ∷ [];
    count = 3;
  };
  claims = record {
    list = claim 1 0 1 10 19 0 ∷ claim 2 1 2 10 1 2000 ∷ claim 3 0 2 11 3 0 ∷ claim 4 0 2 10 1 0 ∷ claim 5 0 1 12 21 1000 ∷ claim 6 5 2 12 5 0 ∷ [];
    count = 6;
  };
  version = 1;
}

-- machine 2 reads and writes 12, writes 11 and delegates 12
action : Action
action = record {
  actor = 2;
  flags = 0;
  now = 1999;
  uses = usage 12 0 ∷ usage 12 1 ∷ usage 11 1 ∷ usage 12 4 ∷ [];
  used = 4;
  governs = [];
  governed = 0;
}

-- from claim 6 to claim 1: hop counts, and which live
bench_hops : map (λ n. n.hops) (paper_of bench 1999 2).remarks ≡ 1 ∷ 0 ∷ 0 ∷ 0 ∷ 1 ∷ 0 ∷ []
unfolding bench paper_of first_of
bench_hops = refl

bench_lives : map (λ n. n.lives) (paper_of bench 1999 2).remarks ≡ false ∷ false ∷ true ∷ true ∷ true ∷ true ∷ []
unfolding bench paper_of first_of
bench_lives = refl

-- the nearer folder speaks, the first on a tie; the further one for a right that the nearer one lacks; no one for DELEGATE
nearer : looked_up (cover_table bench 1999 2) (usage 12 0) ≡ claimed (claim 2 1 2 10 1 2000) 1 6
unfolding bench paper_of first_of looked_up speaks has_right contains reach_of reached contained climbing components same trimmed starting
nearer = refl

further_folder : looked_up (cover_table bench 1999 2) (usage 12 1) ≡ claimed (claim 3 0 2 11 3 0) 0 4
unfolding bench paper_of first_of looked_up speaks has_right contains reach_of reached contained climbing components same trimmed starting
further_folder = refl

no_one : looked_up (cover_table bench 1999 2) (usage 12 4) ≡ nothing
unfolding bench paper_of first_of looked_up speaks has_right contains reach_of reached contained climbing components same trimmed starting
no_one = refl

-- what is public is open to read and no more; a claim speaks there too
open_read : looked_up (cover_table bench 1999 1) (usage 11 0) ≡ openly
unfolding bench paper_of first_of looked_up speaks has_right contains reach_of reached contained climbing components same trimmed starting
open_read = refl

open_write : looked_up (cover_table bench 1999 1) (usage 11 1) ≡ nothing
unfolding bench paper_of first_of looked_up speaks has_right contains reach_of reached contained climbing components same trimmed starting
open_write = refl

open_claimed : looked_up (cover_table bench 1999 2) (usage 11 0) ≡ claimed (claim 3 0 2 11 3 0) 0 4
unfolding bench paper_of first_of looked_up speaks has_right contains reach_of reached contained climbing components same trimmed starting
open_claimed = refl

-- a source that lives, and one that does not any more
source_live_lem : looked_up (cover_table bench 999 2) (usage 12 2) ≡ claimed (claim 6 5 2 12 5 0) 1 8
unfolding bench paper_of first_of looked_up speaks has_right contains reach_of reached contained climbing components same trimmed starting
source_live_lem = refl

source_dead : looked_up (cover_table bench 1000 2) (usage 12 2) ≡ nothing
unfolding bench paper_of first_of looked_up speaks has_right contains reach_of reached contained climbing components same trimmed starting
source_dead = refl

-- no row, no cell
absent : looked_up (cover_table bench 1999 2) (usage 13 0) ≡ nothing
unfolding bench paper_of first_of looked_up speaks has_right contains reach_of reached contained climbing components same trimmed starting
absent = refl

no_right : looked_up (cover_table bench 1999 2) (usage 12 17) ≡ nothing
unfolding bench paper_of first_of looked_up speaks has_right contains reach_of reached contained climbing components same trimmed starting
no_right = refl

-- the uses of the action: the owner has no claim above site/a, and no one delegates
action_uses : plain_uses (tables_of bench action) 0 (uses_of action) ≡ OwnerNotCovering 2 ∷ NotCovered 3 ∷ []
unfolding bench action paper_of first_of looked_up speaks has_right contains reach_of reached contained climbing components same trimmed starting
action_uses = refl

action_hops : plain_hops bench action ≡ 1 ∷ 0 ∷ 0 ∷ 0 ∷ []
unfolding bench action plain_hops paper_of first_of looked_up speaks has_right contains reach_of reached contained climbing components same trimmed starting
action_hops = refl

bench_sound : sound bench ≡ true
unfolding bench sound within_limits sound_actors sound_resources sound_claims acceptable alone over fresh drawn over_chain machine_may drawn_from root_kept names_stand claim_fits resource_fits actor_fits distinct chain circling root_granted has_right has_rights bars_machine
bench_sound = refl
