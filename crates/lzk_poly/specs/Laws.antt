-- What holds of the polynomials through values and of their values at further points, for points of which the first
-- 65,536 differ.
use Rattle.std.specs.Prelude.{◌≡◌, ℕ, ◌+◌, ◌<◌, ◌≤◌, List, length}
use Rattle.std.proofs.Common.{suc}
use Rattle.lzk_field.specs.Ring.{Ops}
use Rattle.lzk_field.specs.Sums.{sum_below, entry}
use Rattle.lzk_poly.specs.Polynomial.{eval}
use Rattle.lzk_poly.specs.Extension.{IsThrough, extension}
use Rattle.lzk_poly.specs.Through.{through, through_at, values_of}

-- at the points of the values the extension is the values
abbrev pub ValuesStay : {A : Type 0} → Ops A → (ℕ → A) → Type 0
ValuesStay {A} o point =
    (values : List A) → length values ≤ 65536 → (j : ℕ) → j < length values
    → extension o point values j ≡ entry o values j

-- a polynomial's values at as many points as it has coefficients, or more, extend to its values
abbrev pub PolynomialsExtend : {A : Type 0} → Ops A → (ℕ → A) → Type 0
PolynomialsExtend {A} o point =
    (n : ℕ) → (cs : List A) → length cs ≤ n → n ≤ 65536 → (j : ℕ)
    → extension o point (values_of o point n cs) j ≡ eval o cs (point j)

-- where a list begins with values and goes on with their extension, it extends as they do
abbrev pub LongerListsExtend : {A : Type 0} → Ops A → (ℕ → A) → Type 0
LongerListsExtend {A} o point =
    (values longer : List A) → length values ≤ length longer → length longer ≤ 65536
    → ((i : ℕ) → i < length longer → entry o longer i ≡ extension o point values i)
    → (j : ℕ) → extension o point longer j ≡ extension o point values j

-- the products of two lists' extensions, at as many points as the product has coefficients or more, extend to the
-- products
abbrev pub ProductsExtend : {A : Type 0} → Ops A → (ℕ → A) → Type 0
ProductsExtend {A} o point =
    (xs ys products : List A) → 1 ≤ length xs → 1 ≤ length ys → length xs + length ys ≤ suc (length products)
    → length products ≤ 65536
    → ((i : ℕ) → i < length products → entry o products i ≡ o.times (extension o point xs i) (extension o point ys i))
    → (j : ℕ)
    → extension o point products j ≡ o.times (extension o point xs j) (extension o point ys j)

-- the sum of multiples of lists of one length extends to the sum of the multiples of their extensions
abbrev pub SumsExtend : {A : Type 0} → Ops A → (ℕ → A) → Type 0
SumsExtend {A} o point =
    (m : ℕ) → (u : ℕ → A) → (lists : ℕ → List A) → (sums : List A)
    → ((i : ℕ) → i < m → length (lists i) ≡ length sums)
    → ((s : ℕ) → s < length sums → entry o sums s ≡ sum_below o m (λ i. o.times (u i) (entry o (lists i) s)))
    → (j : ℕ) → extension o point sums j ≡ sum_below o m (λ i. o.times (u i) (extension o point (lists i) j))

-- the coefficients that Lagrange's formula gives are those of the polynomial through the values
abbrev pub ThroughMeets : {A : Type 0} → Ops A → (ℕ → A) → Type 0
ThroughMeets {A} o point = (values : List A) → length values ≤ 65536 → IsThrough o point values (through o point values)

-- and of no other one
abbrev pub ThroughIsOnly : {A : Type 0} → Ops A → (ℕ → A) → Type 0
ThroughIsOnly {A} o point =
    (values cs : List A) → length values ≤ 65536 → IsThrough o point values cs → cs ≡ through o point values

-- the polynomial through the values of one with n coefficients is it
abbrev pub ThroughOfValues : {A : Type 0} → Ops A → (ℕ → A) → Type 0
ThroughOfValues {A} o point =
    (cs : List A) → length cs ≤ 65536 → through o point (values_of o point (length cs) cs) ≡ cs

-- its value anywhere is that of the formula
abbrev pub ThroughHasValues : {A : Type 0} → Ops A → (ℕ → A) → Type 0
ThroughHasValues {A} o point =
    (values : List A) → (x : A) → eval o (through o point values) x ≡ through_at o point values x
