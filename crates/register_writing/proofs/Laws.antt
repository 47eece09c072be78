-- What writing a register answers where it is sound and where it is not, the length of a path, and that the text of a register is that of the one whose
-- claims are read from their sheet. Assumes nothing.
use Rattle.std.proofs.Common.{ℕ, ◌≤◌, ◌<◌, ◌≡◌, refl, ap, ◌∙◌, List, ◌++◌, true, false, arith, leb, length, get_or, take, get_or-take, length-take-le, le-leb, leb-true}
use Rattle.lists.specs.Each.{all_imp, every_all, all_every, every_at}
use Rattle.register.specs.Limits.{actor_limit, resource_limit, claim_limit, path_limit}
use Rattle.register.specs.Register.{actors_of, resources_of}
use Rattle.register.specs.declared.Resource.{Resource}
use Rattle.register.specs.declared.Resources.{Resources}
use Rattle.register.specs.declared.Register.{Register}
use Rattle.columns.specs.Sheet.{claims_in, sheet_of}
use Rattle.columns.specs.SheetLaws.{sheet_claims}
use Rattle.soundness.specs.Judged.{register_by}
use Rattle.lines.specs.Reading.{form_line}
use Rattle.text_rules.specs.Keys.{actors_key, resources_key, claims_key}
use Rattle.text_rules.specs.Records.{section_text}
use Rattle.soundness_rules.specs.Sound.{sound, human, resource_fits}
use Rattle.soundness_rules.proofs.Registers.{resource_fits_out, sound_out}
use Rattle.refusals.specs.declared.Refusal.TheVariants.{Unsound}
use Rattle.buffers.specs.Buffers.{put}
use Rattle.text_rules.specs.Registers.{actor_text, resource_text, claim_text, version_form, register_text}
use Rattle.register_writing.specs.Writing.{register_written, register_buffer}
use Rattle.buffers.specs.Delivery.{unwritten, delivered}
use Rattle.register_writing.specs.Lengths.{paths_fit}

-- the path at a place below the count, whatever is taken to stand past the places
pub path_fits : (k : Resources) → paths_fit k ≡ true → (none : Resource) (i : ℕ) → k.count ≤ length k.list → i < k.count →
    (get_or k.list i none).len ≤ path_limit
unfolding paths_fit
path_fits k fit none i inside more =
    let short : leb (get_or (take k.count k.list) i none).len 64 ≡ true =
    every_at (λ (o : Resource). leb o.len 64) (resources_of k) fit none i (omega (arith, length-take-le k.count k.list inside)) in
    leb-true _ _ (rw (get_or-take k.count k.list i none more) at short)

-- every path of a sound register fits
pub paths_fit_lem : (r : Register) → sound r ≡ true → paths_fit r.resources ≡ true
unfolding paths_fit
paths_fit_lem r s =
    let fits = resource_fits (human (actors_of r.actors)) in
    let resources = resources_of r.resources in
    all_every (λ (o : Resource). leb o.len 64) resources
    (all_imp (λ o. fits o ≡ true) (λ o. leb o.len 64 ≡ true)
    (λ o fit. le-leb o.len 64 (resource_fits_out (human (actors_of r.actors)) o fit).len_greatest) resources
    (every_all fits resources (sound_out r s).resources.fit))

-- the text of a register whose claims are read from their sheet
pub text_told : (r : Register) → length r.claims.list ≡ claim_limit → {s : List ℕ} → s ≡ sheet_of r.claims
    → register_text (register_by r.version r.actors r.resources s r.claims.count) ≡ register_text r
unfolding register_text
text_told r places put =
    ap (λ l. form_line version_form r.version
    ++ (section_text actors_key actor_limit actor_text (actors_of r.actors)
    ++ (section_text resources_key resource_limit resource_text (resources_of r.resources) ++ section_text claims_key claim_limit (claim_text r.version) l)))
    (ap (λ s. take r.claims.count (claims_in s)) put ∙ sheet_claims r.claims places)

-- what writing a register answers and leaves, by what is found sound
module _ (r : Register) (old : List ℕ) where
  pub register_unsound : sound r ≡ false → (unwritten Unsound ≡ register_written r old) × (old ≡ register_buffer r old)
  unfolding register_written register_buffer
  register_unsound s = rw s (refl, refl)

  pub register_sound : sound r ≡ true → (register_written r old ≡ delivered (register_text r) old) × (register_buffer r old ≡ put 0 (register_text r) old)
  unfolding register_written register_buffer
  register_sound s = rw s (refl, refl)
