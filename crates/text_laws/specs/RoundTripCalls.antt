-- RoundTrip, of the calls: what the writer leaves, given to the reader, and what the reader leaves, given to the writer.
--     written p A X b out        the bytes that the writer answers for, in the slice that held `out`
--     ReadBack                 what the reader answers and leaves, given a written system
--     write_then_read          .. for every system that the writer takes, and slices that are long enough
--     read_modulus, read_size, read_count       what the reader answers
--     read_matrix, read_scales, read_right      the leading parts of the slices that it leaves
--     read_system              .. are the text's system
--     WrittenAgain             what the writer answers and leaves, given a system that was read
--     read_then_write          .. for every text that the reader takes, and a slice that is long enough
use Rattle.std.specs.Prelude.{◌≡◌, refl, not, ◌&&◌, List, [], ◌∷◌, ℕ, ◌+◌, ◌≤◌, leb, length, take, drop}
use Rattle.std.proofs.Common.{sym, ap, ap₂, ◌∙◌, subst, arith, take_at, le-leb}
use Rattle.std.proofs.lemmas.List.{length-map}
use Rattle.std.proofs.Math.Seq.{take-append_seam}
use Rattle.meaning.specs.List.{overwrite}
use Rattle.meaning.specs.Matrix.{Matrix, matrix, size}
use Rattle.meaning.specs.Text.{Document, document, system, write}
use Rattle.meaning.specs.Refusal.{check, first, unless_refused}
use Rattle.meaning.specs.Calls.{system_checks, text_checks, reader_refusal, reader_answer, reader_after, writer_refusal, writer_answer, writer_after}
use Rattle.laws.specs.Bool.{and_both}
use Rattle.laws.specs.List.{length_table}
use Rattle.laws.specs.Refusal.{first_nil, first_pass, numbered_system, numbered_text, first_append_none, first_append_zero, unless_refused_none}
use Rattle.text_laws.specs.Accepted.{document_accepted}
use Rattle.text_laws.specs.ReadWrite.{placed_length}
use Rattle.text_laws.specs.RoundTrip.{scales_of, WrittenAndRead, written_and_read, ReadAndWritten, read_and_written, system_of, text_accepted}

-- ---- what the writer leaves, given to the reader

abbrev pub written : ℕ → Matrix → List ℕ → List ℕ → List ℕ → List ℕ
written p A X b out = take (writer_answer p A X b out) (writer_after p A X b out)

pub record ReadBack (p : ℕ) (A : Matrix) (X b text starts columns values scales right : List ℕ) : Type 0 where
  pub taken : reader_refusal text starts columns values scales right ≡ 0
  pub modulus : reader_answer (λ d. d.modulus) text starts columns values scales right ≡ p
  pub order : reader_answer (λ d. d.size) text starts columns values scales right ≡ size A
  pub count : reader_answer (λ d. d.count) text starts columns values scales right ≡ length A.columns
  pub starts_after_law : reader_after (λ s. s.matrix.starts) starts text starts columns values scales right ≡ overwrite A.starts starts
  pub columns_after_law : reader_after (λ s. s.matrix.columns) columns text starts columns values scales right ≡ overwrite A.columns columns
  pub values_after_law : reader_after (λ s. s.matrix.values) values text starts columns values scales right ≡ overwrite A.values values
  pub scales_after_law : reader_after (λ s. s.scales) scales text starts columns values scales right ≡ overwrite (scales_of (size A) X) scales
  pub right_after_law : reader_after (λ s. s.right) right text starts columns values scales right ≡ overwrite b right

reader_takes : (text starts columns values scales right : List ℕ) → first (text_checks text) ≡ 0 → (document text).size + 1 ≤ length starts
    → (document text).count ≤ length columns → (document text).count ≤ length values → (document text).size ≤ length scales → (document text).size ≤ length right
    → reader_refusal text starts columns values scales right ≡ 0
unfolding reader_refusal
reader_takes text starts columns values scales right e s c v x r =
    let d = document text in
    first_append_none (text_checks text)
    (check 11
    (not
    (leb (d.size + 1) (length starts) && leb d.count (length columns) && leb d.count (length values)
    && leb d.size (length scales) && leb d.size (length right)))
    ∷ [])
    (numbered_text text) e
    ∙ first_pass 11 _ []
    (and_both (and_both (and_both (and_both (le-leb (d.size + 1) (length starts) s) (le-leb d.count (length columns) c))
    (le-leb d.count (length values) v))
    (le-leb d.size (length scales) x))
    (le-leb d.size (length right) r))
    first_nil

read_back : (p : ℕ) (A : Matrix) (X b starts columns values scales right : List ℕ) → WrittenAndRead p A X b → size A + 1 ≤ length starts
    → length A.columns ≤ length columns → length A.columns ≤ length values → size A ≤ length scales → size A ≤ length right
    → ReadBack p A X b (write p A X b) starts columns values scales right
read_back p A X b starts columns values scales right w s c v x r =
    let text = write p A X b in
    let k : reader_refusal text starts columns values scales right ≡ 0 =
    reader_takes text starts columns values scales right w.accepted (omega (arith, s, w.order)) (omega (arith, c, w.count))
    (omega (arith, v, w.count)) (omega (arith, x, w.order)) (omega (arith, r, w.order)) in
    record {
      taken = k;
      modulus = unless_refused_none (reader_refusal text starts columns values scales right) (document text).modulus 0 k ∙ w.modulus;
      order = unless_refused_none (reader_refusal text starts columns values scales right) (document text).size 0 k ∙ w.order;
      count = unless_refused_none (reader_refusal text starts columns values scales right) (document text).count 0 k ∙ w.count;
      starts_after_law =
          unless_refused_none (reader_refusal text starts columns values scales right) (overwrite (system_of text).matrix.starts starts) starts k
          ∙ ap (λ x. overwrite x.matrix.starts starts) w.comes_back;
      columns_after_law =
          unless_refused_none (reader_refusal text starts columns values scales right) (overwrite (system_of text).matrix.columns columns) columns k
          ∙ ap (λ x. overwrite x.matrix.columns columns) w.comes_back;
      values_after_law =
          unless_refused_none (reader_refusal text starts columns values scales right) (overwrite (system_of text).matrix.values values) values k
          ∙ ap (λ x. overwrite x.matrix.values values) w.comes_back;
      scales_after_law =
          unless_refused_none (reader_refusal text starts columns values scales right) (overwrite (system_of text).scales scales) scales k
          ∙ ap (λ x. overwrite x.scales scales) w.comes_back;
      right_after_law =
          unless_refused_none (reader_refusal text starts columns values scales right) (overwrite (system_of text).right right) right k
          ∙ ap (λ x. overwrite x.right right) w.comes_back;
    }

pub write_then_read : (p : ℕ) (A : Matrix) (X b out starts columns values scales right : List ℕ) → writer_refusal p A X b out ≡ 0
    → size A + 1 ≤ length starts
    → length A.columns ≤ length columns → length A.columns ≤ length values → size A ≤ length scales → size A ≤ length right
    → ReadBack p A X b (written p A X b out) starts columns values scales right
unfolding writer_refusal
write_then_read p A X b out starts columns values scales right e s c v x r =
    let k : writer_refusal p A X b out ≡ 0 = e in
    let bytes : written p A X b out ≡ write p A X b =
    ap₂ take (unless_refused_none (writer_refusal p A X b out) (length (write p A X b)) 0 k) (unless_refused_none (writer_refusal p A X b out) (overwrite (write p A X b) out) out k)
    ∙ take-append_seam (write p A X b) (drop (length (write p A X b)) out) in
    subst (λ text. ReadBack p A X b text starts columns values scales right) (sym bytes)
    (read_back p A X b starts columns values scales right
    (written_and_read p A X b
    (first_append_zero (system_checks p A X b) (check 11 (not (leb (length (write p A X b)) (length out))) ∷ []) (numbered_system p A X b) e).0)
    s c v x r)

-- ---- what the reader leaves, given to the writer

pub record WrittenAgain (p : ℕ) (A : Matrix) (X b text out : List ℕ) : Type 0 where
  pub taken : writer_refusal p A X b out ≡ 0
  pub answer : writer_answer p A X b out ≡ length text
  pub after : writer_after p A X b out ≡ overwrite text out

written_again : (text out : List ℕ) → ReadAndWritten text → length text ≤ length out
    → WrittenAgain (system_of text).modulus (system_of text).matrix (system_of text).scales (system_of text).right text out
unfolding writer_refusal
written_again text out w l =
    let s = system_of text in
    let t = write s.modulus s.matrix s.scales s.right in
    let k : writer_refusal s.modulus s.matrix s.scales s.right out ≡ 0 =
    first_append_none (system_checks s.modulus s.matrix s.scales s.right) (check 11 (not (leb (length t) (length out))) ∷ [])
    (numbered_system s.modulus s.matrix s.scales s.right) w.accepted
    ∙ first_pass 11 (leb (length t) (length out)) [] (le-leb (length t) (length out)
    (omega (arith, l, ap length w.same_bytes))) first_nil in
    record {
      taken = k;
      answer = unless_refused_none (writer_refusal s.modulus s.matrix s.scales s.right out) (length t) 0 k ∙ ap length w.same_bytes;
      after =
          unless_refused_none (writer_refusal s.modulus s.matrix s.scales s.right out) (overwrite t out) out k
          ∙ ap (λ x. overwrite x out) w.same_bytes;
    }

-- the lengths of a document's system
starts_length_law : (d : Document) → length (system d).matrix.starts ≡ d.size + 1
unfolding system
starts_length_law d = length_table (d.size + 1) _

columns_length_law : (d : Document) → length (system d).matrix.columns ≡ length d.entries
unfolding system
columns_length_law d = length-map d.entries _

values_length : (d : Document) → length (system d).matrix.values ≡ length d.entries
unfolding system
values_length d = length-map d.entries _

scales_length : (d : Document) → length (system d).scales ≡ d.size
unfolding system
scales_length d = placed_length d.size 1 d.scales

right_length : (d : Document) → length (system d).right ≡ d.size
unfolding system
right_length d = placed_length d.size 0 d.elements

system_modulus : (d : Document) → (system d).modulus ≡ d.modulus
unfolding system
system_modulus d = refl

-- the leading part of a slice that was filled
leading : (k m n : ℕ) (l old : List ℕ) → k ≡ 0 → n ≡ m → length l ≡ m → take n (unless_refused k (overwrite l old) old) ≡ l
leading k m n l old e q h = ap₂ take q (unless_refused_none k (overwrite l old) old e) ∙ take_at l (drop (length l) old) m h

module _ (text starts columns values scales right : List ℕ) where
  abbrev pub read_modulus : ℕ
  read_modulus = reader_answer (λ d. d.modulus) text starts columns values scales right

  abbrev pub read_size : ℕ
  read_size = reader_answer (λ d. d.size) text starts columns values scales right

  abbrev pub read_count : ℕ
  read_count = reader_answer (λ d. d.count) text starts columns values scales right

  abbrev pub read_matrix : Matrix
  read_matrix =
      matrix (take (read_size + 1) (reader_after (λ s. s.matrix.starts) starts text starts columns values scales right))
      (take read_count (reader_after (λ s. s.matrix.columns) columns text starts columns values scales right))
      (take read_count (reader_after (λ s. s.matrix.values) values text starts columns values scales right))

  abbrev pub read_scales : List ℕ
  read_scales = take read_size (reader_after (λ s. s.scales) scales text starts columns values scales right)

  abbrev pub read_right : List ℕ
  read_right = take read_size (reader_after (λ s. s.right) right text starts columns values scales right)

  reader_taken : reader_refusal text starts columns values scales right ≡ 0 → first (text_checks text) ≡ 0
  unfolding reader_refusal
  reader_taken e = (first_append_zero (text_checks text) _ (numbered_text text) e).0

  -- the system in the leading parts is the text's
  pub read_system : reader_refusal text starts columns values scales right ≡ 0
      → record { modulus = read_modulus; matrix = read_matrix; scales = read_scales; right = read_right } ≡ system_of text
  read_system e =
      let d = document text in
      let k = reader_refusal text starts columns values scales right in
      let a = document_accepted d (text_accepted text (reader_taken e)).2 in
      let n : read_size ≡ d.size = unless_refused_none k d.size 0 e in
      let c : read_count ≡ length d.entries = unless_refused_none k d.count 0 e ∙ a.counted in
      let p = unless_refused_none k d.modulus 0 e ∙ sym (system_modulus d) in
      let ss = leading k (d.size + 1) (read_size + 1) (system d).matrix.starts starts e (ap (λ x. x + 1) n) (starts_length_law d) in
      let cs = leading k (length d.entries) read_count (system d).matrix.columns columns e c (columns_length_law d) in
      let vs = leading k (length d.entries) read_count (system d).matrix.values values e c (values_length d) in
      let xs = leading k d.size read_size (system d).scales scales e n (scales_length d) in
      let rs = leading k d.size read_size (system d).right right e n (right_length d) in
      λ i. record { modulus = p i; matrix = matrix (ss i) (cs i) (vs i); scales = xs i; right = rs i }

  pub read_then_write : (out : List ℕ) → reader_refusal text starts columns values scales right ≡ 0 → length text ≤ length out
      → WrittenAgain read_modulus read_matrix read_scales read_right text out
  read_then_write out e l =
      subst (λ x. WrittenAgain x.modulus x.matrix x.scales x.right text out) (sym (read_system e))
      (written_again text out (read_and_written text (reader_taken e)) l)
