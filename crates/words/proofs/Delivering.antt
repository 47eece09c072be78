-- A text that is found to be another is delivered as that one; and each table of the code is the one of the definitions, a line feed behind each
-- text. Assumes nothing.
use Rattle.std.proofs.Common.{ℕ, min, ◌≡◌, refl, ap, ◌∙◌, List, [], ◌∷◌, ◌++◌, length}
use Rattle.buffers.specs.Buffers.{put}
use Rattle.buffers.specs.Delivery.{delivered}
use Rattle.buffers.specs.declared.Written.{Written}
use Rattle.json_rules.specs.Names.{kind_names, flag_names}
use Rattle.words.specs.Tables.{table_of, text_at, table_natural}
use Rattle.words.specs.Words.{refusal_texts, refusal_text, unknown_refusal, violation_texts, violation_text, unknown_violation, right_name, unknown_right, flag_name, unknown_flag}

pub delivering : {w : Written} {t u new : List ℕ} (old : List ℕ) → t ≡ u → w ≡ delivered t old → new ≡ put 0 t old
    → (w ≡ delivered u old) × (new ≡ put 0 u old)
delivering old same answer buffer = (answer ∙ ap (λ x. delivered x old) same, buffer ∙ ap (λ x. put 0 x old) same)

-- the texts of the tables are plain, and so the text at a number's place is the number's own
pub refusal_found : (n : ℕ) → text_at (min n (length refusal_texts)) [] (table_of (refusal_texts ++ (unknown_refusal ∷ []))) ≡ refusal_text n
refusal_found n = table_natural refusal_texts unknown_refusal n refl refl

pub violation_found : (n : ℕ) → text_at (min n (length violation_texts)) [] (table_of (violation_texts ++ (unknown_violation ∷ []))) ≡ violation_text n
violation_found n = table_natural violation_texts unknown_violation n refl refl

pub right_found : (n : ℕ) → text_at (min n (length kind_names)) [] (table_of (kind_names ++ (unknown_right ∷ []))) ≡ right_name n
right_found n = table_natural kind_names unknown_right n refl refl

pub flag_found : (n : ℕ) → text_at (min n (length flag_names)) [] (table_of (flag_names ++ (unknown_flag ∷ []))) ≡ flag_name n
flag_found n = table_natural flag_names unknown_flag n refl refl
