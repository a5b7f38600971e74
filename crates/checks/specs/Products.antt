-- Products with a matrix, as the code counts them: how many, and the entries that they multiply (request (iii)).
--     products_with k A       k products with A
--     added                  some products and some more
--     wrapped                .. modulo 2⁶⁴, as the code adds any two counts: wrapped_few
--     products_none, products_zero, products_add, products_next      .. with A; one more
--     products_scaled        .. with AX
--     Few, products_few      what keeps a sum of two within 64 bits: up to 65,536 products each; so it is of those with a valid matrix,
--     per_product_low        each of which multiplies at most 65,536 entries
--     rows_ended, product_ended, row_behind      a loop over all rows is one product, which goes from the first row's start to the last one's end
use Rattle.std.specs.Prelude.{◌≡◌, refl, List, ℕ, zero, suc, ◌+◌, ◌-◌, ◌%◌, ◌≤◌, ◌<◌, length}
use Rattle.std.proofs.Common.{sym, ap, ap₂, ◌∙◌, add-one, mod-eq_of_lt, arith}
use Rattle.meaning.specs.List.{at}
use Rattle.meaning.specs.Matrix.{Matrix, size, per_product, multiplied, scaled}
use Rattle.laws.specs.Products.{multiplied_none, multiplied_one, multiplied_add, multiplied_most, multiplied_scaled, rows_entries}
use Rattle.checks.specs.declared.Products.{Products}
use Rattle.checks.specs.Valid.{Valid}

abbrev pub products_with : ℕ → Matrix → Products
products_with k A = record { made = k; multiplied = multiplied k A }

abbrev pub added : Products → Products → Products
added a b = record { made = a.made + b.made; multiplied = a.multiplied + b.multiplied }

abbrev pub wrapped : Products → Products → Products
wrapped a b = record { made = (a.made + b.made) % 18446744073709551616; multiplied = (a.multiplied + b.multiplied) % 18446744073709551616 }

pub products_none : (A : Matrix) → ◌≡◌ {A = Products} (record { made = 0; multiplied = 0 }) (products_with 0 A)
products_none A = ap {B = Products} (λ m. record { made = 0; multiplied = m }) (sym (multiplied_none A))

pub products_zero : (A : Matrix) {a : Products} → a.made ≡ 0 → a.multiplied ≡ 0 → a ≡ products_with a.made A
products_zero A {a} e f = ap {B = Products} (λ m. record { made = a.made; multiplied = m }) (f ∙ sym (multiplied_none A) ∙ ap (λ k. multiplied k A) (sym e))

pub products_add : (A : Matrix) (j k m : ℕ) {a b : Products} → a ≡ products_with j A → b ≡ products_with k A → j + k ≡ m → added a b ≡ products_with m A
products_add A j k m e f g =
    ap₂ {C = Products} added e f ∙ ap {B = Products} (λ x. record { made = j + k; multiplied = x }) (sym (multiplied_add A j k))
    ∙ ap {B = Products} (λ x. products_with x A) g

pub products_next : (A : Matrix) {a r : Products} → a ≡ products_with a.made A → r ≡ added a (products_with 1 A) → r ≡ products_with r.made A
products_next A {a} {r} e f = f ∙ products_add A a.made 1 r.made e refl (sym (ap (λ (x : Products). x.made) f))

-- products with AX are counted as those with A
pub products_scaled : (p : ℕ) (A : Matrix) (X : List ℕ) (k : ℕ) → products_with k A ≡ products_with k (scaled p A X)
products_scaled p A X k = ap {B = Products} (λ m. record { made = k; multiplied = m }) (sym (multiplied_scaled p A X k))

-- ---- 64 bits

pub record Few (a : Products) : Type 0 where
  pub made_low : a.made ≤ 65536
  pub multiplied_low : a.multiplied ≤ 4294967296

pub wrapped_few : {a b : Products} → Few a → Few b → wrapped a b ≡ added a b
wrapped_few h k =
    ap₂ {C = Products} (λ m n. record { made = m; multiplied = n }) (mod-eq_of_lt (omega (arith, h.made_low, k.made_low)))
    (mod-eq_of_lt (omega (arith, h.multiplied_low, k.multiplied_low)))

pub per_product_low : {p : ℕ} {A : Matrix} → Valid p A → per_product A ≤ 65536
unfolding per_product
per_product_low {p} {A} h = omega (arith, rows_entries A h.rise (size A) (omega arith), last (size A) h.within, h.few)
  where
    last : (n : ℕ) → ((i : ℕ) → i < n → at A.starts (i + 1) ≤ length A.columns) → at A.starts n ≤ length A.columns + at A.starts 0
    last zero w = omega arith
    last (suc n) w = omega (arith, w n (omega arith), ap (at A.starts) (add-one n))

pub products_few : {p : ℕ} {A : Matrix} {k : ℕ} {a : Products} → Valid p A → k ≤ 65536 → a ≡ products_with k A → Few a
products_few {p} {A} {k} {a} h l e =
    record {
      made_low = omega (arith, ap (λ (x : Products). x.made) e);
      multiplied_low = omega (arith, ap (λ (x : Products). x.multiplied) e, multiplied_most A 65536 k (per_product_low h));
    }

-- ---- one product

pub rows_ended : {p : ℕ} {A : Matrix} {i end r : ℕ} → Valid p A → i ≡ size A → end ≡ at A.starts i → r ≡ end - at A.starts 0 → r ≡ multiplied 1 A
unfolding per_product
rows_ended {p} {A} {i} {end} {r} h e from f =
    omega (arith, f, from, ap (at A.starts) e, rows_entries A h.rise (size A) (omega arith), multiplied_one A)

pub product_ended : {p : ℕ} {A : Matrix} {i end r : ℕ} → Valid p A → i ≡ size A → end ≡ at A.starts i → r ≡ end - at A.starts 0
    → ◌≡◌ {A = Products} (record { made = 1; multiplied = r }) (products_with 1 A)
product_ended h e from f = ap {B = Products} (λ m. record { made = 1; multiplied = m }) (rows_ended h e from f)

-- no row ends before the first begins
pub row_behind : {p : ℕ} {A : Matrix} {i end : ℕ} → Valid p A → i ≤ size A → end ≡ at A.starts i → at A.starts 0 ≤ end
row_behind {p} {A} {i} h l from = omega (arith, from, rows_entries A h.rise i l)
