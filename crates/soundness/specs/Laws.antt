-- Laws: The register of a sheet that a register's claims were put into is that register, and as sound. Assumes nothing.
use Rattle.std.specs.Prelude.{◌≡◌, refl, List, map, ℕ, ◌≤◌, length, replicate}
use Rattle.std.proofs.Common.{sym, ap, ◌∙◌, arith, eq-eqb, take_all}
use Rattle.std.proofs.lemmas.List.{length-replicate}
use Rattle.register.specs.Limits.{claim_limit}
use Rattle.register.specs.Register.{claim_as, Same}
use Rattle.register.specs.declared.Actors.{Actors}
use Rattle.register.specs.declared.Resources.{Resources}
use Rattle.register.specs.declared.Claim.{Claim}
use Rattle.register.specs.declared.Register.{Register}
use Rattle.columns.specs.Columns.{actors_to, resources_to, actor_columns, resource_columns}
use Rattle.columns.specs.Sheet.{sheet_limit, sheet_with, sheet_of, column_of, id_column, parent_column}
use Rattle.columns.specs.SheetLaws.{sheet_with_length, claims_with, sheet_long, sheet_claims}
use Rattle.lookup.specs.Finding.{earlier_places}
use Rattle.soundness_rules.specs.Sound.{sound, table_sound}
use Rattle.soundness_rules.proofs.Sameness.{sound_same}
use Rattle.soundness_rules.proofs.Tables.{table_register}
use Rattle.soundness.specs.Judged.{register_by, findings_by}
use Rattle.soundness.specs.Opened.{Opened}
use Rattle.soundness.specs.declared.Findings.{Findings}

module _ (r : Register) (places : length r.claims.list ≡ claim_limit) where
  pub register_standing : Same (register_by r.version r.actors r.resources (sheet_of r.claims) r.claims.count) r
  register_standing = record {
    actor_count = refl;
    actors = refl;
    resource_count = refl;
    resources = refl;
    claim_count = refl;
    claims = ap (map (claim_as r.version)) (sheet_claims r.claims places);
    version = refl;
  }

  pub register_same : sound (register_by r.version r.actors r.resources (sheet_of r.claims) r.claims.count) ≡ sound r
  register_same = sound_same (register_by r.version r.actors r.resources (sheet_of r.claims) r.claims.count) r register_standing

  -- so it is judged as that register is
  pub judged_same : (findings_by r.version r.actors r.resources (sheet_of r.claims) r.claims.count).sound ≡ sound r
  judged_same = rw (eq-eqb (length (sheet_of r.claims)) sheet_limit (sheet_long r.claims)) register_same

-- the claims of a table, in a sheet of zeros, are judged as the table is
pub table_judged : (version : ℕ) (a : Actors) (o : Resources) (cs : List Claim) → length cs ≤ claim_limit
    → (findings_by version a o (sheet_with (replicate sheet_limit 0) cs) (length cs)).sound ≡ table_sound version a o cs
table_judged version a o cs few =
    let empty : List ℕ = replicate sheet_limit 0 in
    let zeros : length empty ≡ sheet_limit = length-replicate {A = ℕ} sheet_limit 0 in
    let s = sheet_with empty cs in
    let same : Same (register_by version a o s (length cs)) (table_register version a o cs) = record {
      actor_count = refl;
      actors = refl;
      resource_count = refl;
      resources = refl;
      claim_count = refl;
      claims = ap (map (claim_as version)) (claims_with empty cs zeros few ∙ sym (take_all (length cs) cs (omega arith)));
      version = refl;
    } in
    rw (eq-eqb (length s) sheet_limit (sheet_with_length empty cs ∙ zeros)) (sound_same (register_by version a o s (length cs)) (table_register version a o cs) same)

-- what was found of a register that was examined
module _ (r : Register) where
  -- what `examine` ensures of a sheet of zeros
  pub examined : {s : List ℕ} {found : Findings} → (s ≡ sheet_of r.claims) × (found ≡ findings_by r.version r.actors r.resources s r.claims.count) → Opened r s found
  examined told = record { put = told.0; told = told.1 }

  module _ {s : List ℕ} {found : Findings} (opened : Opened r s found) where
    -- whether it is sound
    pub judged_sound : length r.claims.list ≡ claim_limit → found.sound ≡ sound r
    judged_sound places =
        ap (λ f. f.sound) opened.told
        ∙ ap (λ l. (findings_by r.version r.actors r.resources l r.claims.count).sound) opened.put
        ∙ judged_same r places

    -- where the parents stand
    pub judged_ups : found.ups ≡ earlier_places (column_of id_column (sheet_of r.claims)) (column_of parent_column (sheet_of r.claims)) r.claims.count
    judged_ups = ap (λ f. f.ups) opened.told ∙ ap (λ l. (findings_by r.version r.actors r.resources l r.claims.count).ups) opened.put

    -- the columns of the actors and the resources
    pub judged_actors : found.actors ≡ actor_columns (actors_to r.actors).list
    judged_actors = ap (λ f. f.actors) opened.told

    pub judged_resources : found.resources ≡ resource_columns (resources_to r.resources).list
    judged_resources = ap (λ f. f.resources) opened.told
