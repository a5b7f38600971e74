-- The second condition's last sentence, of the meanings: "a system that is written and read comes back equal, and an accepted text written
-- again has the same bytes".
--     text_accepted, accepted_text   first (text_checks text) ≡ 0, and what it says: each from the other
--     scales_of n X                   the n scales that X stands for; scales_same: X itself if it has n elements; scales_ones: n ones if it has none
--     WrittenAndRead p A X b         what holds of an accepted system's text
--     written_and_read               .. of every accepted system
--     system_of text                  the system of a text
--     ReadAndWritten text            what holds of an accepted text's system
--     read_and_written               .. of every accepted text
use Rattle.std.specs.Prelude.{◌≡◌, refl, true, ◌&&◌, List, [], ℕ, ◌≤◌, leb, length}
use Rattle.std.proofs.Common.{sym, ap, ◌∙◌, arith, leb-true, le-leb}
use Rattle.meaning.specs.List.{table}
use Rattle.meaning.specs.Matrix.{Matrix, size, scale_at}
use Rattle.meaning.specs.Text.{document, in_form, System, system, write}
use Rattle.meaning.specs.Refusal.{first, document_checks}
use Rattle.meaning.specs.Calls.{system_checks, text_checks}
use Rattle.laws.specs.Bool.{and_left, and_right, and_both}
use Rattle.laws.specs.List.{table_of}
use Rattle.laws.specs.Refusal.{first_passed, first_pass}
use Rattle.text_laws.specs.Document.{text_of_document, document_text, form_text, text_document, shaped_document}
use Rattle.text_laws.specs.Accepted.{AcceptedSystem, AcceptedScales, system_accepted, system_scales, accepted_system, document_accepted, accepted_document}
use Rattle.text_laws.specs.Coordinates.{document_of, write_document}
use Rattle.text_laws.specs.WriteRead.{system_document, accepted_document_of, shaped_document_of}
use Rattle.text_laws.specs.ReadWrite.{document_system, accepted_system_of, accepted_scales_of}
use Rattle.text_laws.specs.Length.{write_within}

-- a text that passes its checks: within the limit, in form, and its document passes
pub text_accepted : (text : List ℕ) → first (text_checks text) ≡ 0
    → (length text ≤ 2097152) × (in_form text ≡ true) × (first (document_checks (document text)) ≡ 0)
unfolding text_checks
text_accepted text e =
    let c2 = first_passed 2 (leb (length text) 2097152 && in_form text) _ (omega arith) e in (
      leb-true (length text) 2097152 (and_left (leb (length text) 2097152) (in_form text) c2.0),
      and_right (leb (length text) 2097152) (in_form text) c2.0,
      c2.1,
    )

pub accepted_text : (text : List ℕ) → length text ≤ 2097152 → in_form text ≡ true → first (document_checks (document text)) ≡ 0
    → first (text_checks text) ≡ 0
unfolding text_checks
accepted_text text l f e =
    first_pass 2 (leb (length text) 2097152 && in_form text) (document_checks (document text)) (and_both (le-leb (length text) 2097152 l) f) e

-- ---- "a system that is written and read comes back equal"

-- "n scales, all 1 if not given"
abbrev pub scales_of : ℕ → List ℕ → List ℕ
scales_of n X = table n (scale_at X)

pub scales_same : (n : ℕ) (X : List ℕ) → length X ≡ n → scales_of n X ≡ X
scales_same n X e = sym (table_of 1 X n (scale_at X) e (λ i l. refl))

pub scales_ones : (n : ℕ) → scales_of n [] ≡ table n (λ i. 1)
scales_ones n = refl

pub record WrittenAndRead (p : ℕ) (A : Matrix) (X b : List ℕ) : Type 0 where
  pub in_form_law : in_form (write p A X b) ≡ true
  pub within_limit : length (write p A X b) ≤ 2097152
  pub accepted : first (text_checks (write p A X b)) ≡ 0
  pub modulus : (document (write p A X b)).modulus ≡ p
  pub order : (document (write p A X b)).size ≡ size A
  pub count : (document (write p A X b)).count ≡ length A.columns
  pub comes_back : system (document (write p A X b)) ≡ record { modulus = p; matrix = A; scales = scales_of (size A) X; right = b }

document_write : (p : ℕ) (A : Matrix) (X b : List ℕ) → AcceptedSystem p A b → AcceptedScales p (size A) X
    → document (write p A X b) ≡ document_of p A X b
document_write p A X b a x = ap document (write_document p A X b) ∙ document_text (document_of p A X b) (shaped_document_of p A X b a x)

pub written_and_read : (p : ℕ) (A : Matrix) (X b : List ℕ) → first (system_checks p A X b) ≡ 0 → WrittenAndRead p A X b
unfolding document_of
written_and_read p A X b e =
    let a = system_accepted p A X b e in
    let x = system_scales p A X b e in
    let d : document (write p A X b) ≡ document_of p A X b = document_write p A X b a x in
    let f : in_form (write p A X b) ≡ true = ap in_form (write_document p A X b) ∙ form_text (document_of p A X b) (shaped_document_of p A X b a x) in
    record {
      in_form_law = f;
      within_limit = write_within p A X b a x;
      accepted =
          accepted_text (write p A X b) (write_within p A X b a x) f
          (ap (λ t. first (document_checks t)) d ∙ accepted_document (document_of p A X b) (accepted_document_of p A X b a x));
      modulus = ap (λ t. t.modulus) d;
      order = ap (λ t. t.size) d;
      count = ap (λ t. t.count) d;
      comes_back = ap system d ∙ system_document p A X b a x;
    }

-- ---- "an accepted text written again has the same bytes"

abbrev pub system_of : List ℕ → System
system_of text = system (document text)

pub record ReadAndWritten (text : List ℕ) : Type 0 where
  pub accepted :
      first (system_checks (system_of text).modulus (system_of text).matrix (system_of text).scales (system_of text).right) ≡ 0
  pub same_bytes : write (system_of text).modulus (system_of text).matrix (system_of text).scales (system_of text).right ≡ text

pub read_and_written : (text : List ℕ) → first (text_checks text) ≡ 0 → ReadAndWritten text
read_and_written text e =
    let t = text_accepted text e in
    let s = shaped_document text t.1 in
    let a = document_accepted (document text) t.2 in
    record {
      accepted =
          accepted_system (system_of text).modulus (system_of text).matrix (system_of text).scales (system_of text).right
          (accepted_system_of (document text) s a) (accepted_scales_of (document text) s a);
      same_bytes =
          write_document (system_of text).modulus (system_of text).matrix (system_of text).scales (system_of text).right
          ∙ ap text_of_document (document_system (document text) s a) ∙ text_document text t.1;
    }
