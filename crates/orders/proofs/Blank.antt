-- A table of zeros holds no order.
use Rattle.std.proofs.Common.{◌≡◌, ℕ, zero, suc, ◌-◌, ◌*◌, false, List, get_or, take, replicate, None, refl}
use Rattle.std.proofs.lemmas.List.{drop-replicate}
use Rattle.std.proofs.lemmas.Bool.{and_right, cond-false}
use Rattle.orders.specs.Books.{within}
use Rattle.orders.specs.Rows.{HoldsOrders, order_at}

abbrev zeros : ℕ → List ℕ
zeros n = replicate n 0

first_zero : (m n : ℕ) → ◌≡◌ {A = ℕ} (get_or (take m (zeros n)) 0 0) 0
first_zero zero n = refl
first_zero (suc m) zero = refl
first_zero (suc m) (suc n) = refl

pub zeros_order : (choosers items n k : ℕ) → order_at choosers items (zeros n) k ≡ None
zeros_order choosers items n k =
    rw (drop-replicate {X = ℕ} ((k - 1) * items) n 0, first_zero)
    (cond-false _ _ _ (and_right (within k choosers) false refl))

pub zeros_held : (choosers items n : ℕ) → HoldsOrders choosers items (zeros n)
zeros_held choosers items n k order e = let none = zeros_order choosers items n k in cc
