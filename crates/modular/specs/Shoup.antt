-- A product c·x less a multiple of p without a division by p: w is a quotient of c·B by p that is taken beforehand, and what is left of it, e, is at
-- most p. With h = w·x / B the product c·x less h·p is below 2p and still c·x modulo p.
--     less_exact, less_le, less_lt, less_mod      for any such w
--     shoup_le, shoup_lt, shoup_mod               Shoup's: w = c·B / p; B is 2³² in the code
--     barrett_le, barrett_lt, barrett_mod         Barrett's: c = 1 and w = (B − 1) / p; B is 2⁶⁴ in the code
use Rattle.std.specs.Prelude.{◌≡◌, ℕ, ◌+◌, ◌-◌, ◌*◌, ◌/◌, ◌%◌, ◌<◌, ◌≤◌}
use Rattle.std.proofs.Common.{sym, ap, ◌∙◌, subst, add-mul, mul_right_comm, mul_comm, one-mul, div-add-mod', mod-lt, sub-add_cancel, le_of_lt, mul-le-mul, mul-lt-mul_of_pos_right, le_of_mul-le-mul_right, lt_of_mul-lt-mul_right, arith}
use Rattle.std.proofs.Math.Nat.{add-mul-mod_self_right}

module _ (B p c x w e : ℕ) (taken : w * p + e ≡ c * B) where
  abbrev h : ℕ
  h = w * x / B

  pub less_exact : c * x * B ≡ h * p * B + (w * x % B * p + e * x)
  less_exact =
      let e₁ : c * B * x ≡ w * p * x + e * x = ap (λ n. n * x) (sym taken) ∙ add-mul (w * p) e x in
      let e₂ : w * x * p ≡ h * B * p + w * x % B * p = ap (λ n. n * p) (sym (div-add-mod' (w * x) B)) ∙ add-mul (h * B) (w * x % B) p in
      omega (arith, e₁, e₂, mul_right_comm c x B, mul_right_comm w p x, mul_right_comm h p B)

  pub less_le : 0 < B → h * p ≤ c * x
  less_le b = le_of_mul-le-mul_right {m = h * p} {n = c * x} {k = B} (omega (arith, less_exact)) b

  pub less_lt : 0 < p → e ≤ p → x < B → c * x - h * p < p + p
  less_lt z l k =
      let b : 0 < B = omega arith in
      let a₁ : w * x % B * p < B * p = mul-lt-mul_of_pos_right (mod-lt (w * x) b) z in
      let a₂ : e * x ≤ p * B = mul-le-mul l (le_of_lt k) in
      let s : (h * p + (p + p)) * B ≡ h * p * B + (p * B + p * B) = add-mul (h * p) (p + p) B ∙ ap (λ n. h * p * B + n) (add-mul p p B) in
      let t : c * x < h * p + (p + p) =
      lt_of_mul-lt-mul_right B {m = c * x} {n = h * p + (p + p)} (omega (arith, less_exact, a₁, a₂, s, mul_comm B p)) in
      omega (arith, less_le b, t)

  pub less_mod : 0 < B → (c * x - h * p) % p ≡ c * x % p
  less_mod b =
      sym (add-mul-mod_self_right (c * x - h * p) h p) ∙ ap (λ n. n % p) (sub-add_cancel {n = c * x} {m = h * p} (less_le b))

module _ (B p c x : ℕ) where
  abbrev pub multiple : ℕ
  multiple = c * B / p * x / B * p

  pub shoup_le : 0 < B → multiple ≤ c * x
  shoup_le = less_le B p c x (c * B / p) (c * B % p) (div-add-mod' (c * B) p)

  pub shoup_lt : 0 < p → x < B → c * x - multiple < p + p
  shoup_lt z = less_lt B p c x (c * B / p) (c * B % p) (div-add-mod' (c * B) p) z (le_of_lt (mod-lt (c * B) z))

  pub shoup_mod : 0 < B → (c * x - multiple) % p ≡ c * x % p
  shoup_mod = less_mod B p c x (c * B / p) (c * B % p) (div-add-mod' (c * B) p)

module _ (N p x : ℕ) where
  abbrev pub nearest : ℕ
  nearest = N / p * x / (N + 1) * p

  whole : N / p * p + (N % p + 1) ≡ 1 * (N + 1)
  whole = omega (arith, div-add-mod' N p, one-mul (N + 1))

  pub barrett_le : nearest ≤ x
  barrett_le = subst (λ y. nearest ≤ y) (one-mul x) (less_le (N + 1) p 1 x (N / p) (N % p + 1) whole (omega arith))

  pub barrett_lt : 0 < p → x < N + 1 → x - nearest < p + p
  barrett_lt z l =
      subst (λ y. y - nearest < p + p) (one-mul x) (less_lt (N + 1) p 1 x (N / p) (N % p + 1) whole z (omega (arith, mod-lt N z)) l)

  pub barrett_mod : (x - nearest) % p ≡ x % p
  barrett_mod = subst (λ y. (y - nearest) % p ≡ y % p) (one-mul x) (less_mod (N + 1) p 1 x (N / p) (N % p + 1) whole (omega arith))
