-- What is found by what was filled from lent bytes is what is found of the register that they hold: of as many bytes as a register has, the one whose
-- fields stand in them; of others, that of version 0, which is not sound. Assumes nothing.
use Rattle.std.proofs.Common.{◌≡◌, refl, sym, ap, ◌∙◌, Bool, false, List, ℕ, length, replicate}
use Rattle.register.specs.Register.{claims_of, Shaped}
use Rattle.register.specs.declared.Register.{Register}
use Rattle.register_bytes.specs.Bytes.{register_size, register_at, versionless, register_in}
use Rattle.register_bytes.specs.Laws.{register_in_lem, register_other, register_shaped}
use Rattle.columns.specs.Columns.{actors_to, resources_to, actor_columns, resource_columns}
use Rattle.columns.specs.Sheet.{sheet_limit, sheet_with}
use Rattle.columns.specs.declared.ActorColumns.{ActorColumns}
use Rattle.columns.specs.declared.ResourceColumns.{ResourceColumns}
use Rattle.soundness_rules.specs.Sound.{sound}
use Rattle.soundness.specs.World.{resources_alone}
use Rattle.soundness.specs.Judged.{findings_over}
use Rattle.soundness.specs.Opened.{Opened}
use Rattle.soundness.specs.Laws.{judged_sound}
use Rattle.soundness.specs.Whole.{columns_natural}
use Rattle.soundness.specs.declared.Findings.{Findings}
use Rattle.gate.specs.Judged.{counts_of}
use Rattle.gate.specs.declared.Counts.{Counts}

-- what `examine` knows, put together
pub opened_by : (r : Register) → Shaped r → {s₀ s : List ℕ} → s ≡ sheet_with s₀ (claims_of r.claims) → s₀ ≡ replicate sheet_limit 0 → {counts : Counts} → counts ≡ counts_of r
    → {version : ℕ} → version ≡ r.version → {actors : ActorColumns} → actors ≡ actor_columns (actors_to r.actors).list → {resources : ResourceColumns}
    → resources ≡ resource_columns (resources_to r.resources).list → {alone : Bool} → alone ≡ resources_alone r.resources → {found : Findings}
    → found ≡ findings_over version actors counts.actors resources counts.resources alone s counts.claims → Opened r s found
opened_by r shaped {s = s} put zeros of-counts of-version of-actors of-resources of-alone told = record {
  put = put ∙ ap (λ l. sheet_with l (claims_of r.claims)) zeros;
  told =
      rw (told, of-counts, of-version, of-actors, of-resources, of-alone)
      (columns_natural r.version r.actors r.resources s r.claims.count shaped.actors shaped.resources);
}

-- the register of version 0 is not sound
versionless_unsound : sound versionless ≡ false
unfolding sound
versionless_unsound = refl

module _ (bytes : List ℕ) where
  -- bytes of another length
  pub other_unsound : (length bytes ≡ register_size → ⊥) → sound (register_in bytes) ≡ false
  other_unsound other = ap sound (register_other bytes other) ∙ versionless_unsound

  -- bytes of a register's length
  pub held_sound : length bytes ≡ register_size → {s : List ℕ} {found : Findings} → Opened (register_at bytes) s found → found.sound ≡ sound (register_in bytes)
  held_sound long opened = judged_sound (register_at bytes) opened (register_shaped bytes long).claims ∙ sym (ap sound (register_in_lem bytes long))
