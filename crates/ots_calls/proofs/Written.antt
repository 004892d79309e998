-- What was written into an empty writer is read again.
use Rattle.std.proofs.Common.{◌≡◌, ℕ, ◌+◌, List, [], ◌∷◌, ◌++◌, length, sym, ap, subst, ◌∙◌, append_assoc, arith, length-append}
use Rattle.std.proofs.lemmas.List.{append-nil}
use Rattle.cdr_values.specs.declared.order.Order.{Order}
use Rattle.cdr_values.specs.declared.order.Order.TheVariants.{Big}
use Rattle.cdr_values.specs.Again.{AllFit, standing, ValuesAreReadAgain}
use Rattle.cdr_values.specs.Value.{Value, canonical}
use Rattle.cdr_values.specs.Values.{ReadsAll, canonical_all, with_values}
use Rattle.cdr_values.specs.Writing.{Writing, place_of, with_value}
use Rattle.ots_calls.specs.Call.{AreLeft}
use Rattle.ots_calls.specs.Writing.{blank}

-- a writing with these octets
abbrev pub writing : Order → ℕ → List ℕ → Writing
writing order start octets = record { order = order; start = start; octets = octets }

-- the octets of the values stand behind those that were there
pub with_values-is : (w : Writing) (values : List Value) → with_values w values ≡ writing w.order w.start (w.octets ++ canonical_all w.order (place_of w) values)
with_values-is w [] = ap (writing w.order w.start) (sym (append-nil w.octets))
with_values-is w (x ∷ xs) =
    let one = canonical w.order (place_of w) x in
    let place : place_of (with_value w x) ≡ place_of w + length one = omega (arith, length-append w.octets one) in
    with_values-is (with_value w x) xs ∙ ap (writing w.order w.start) (ap (λ (k : ℕ). (w.octets ++ one) ++ canonical_all w.order k xs) place ∙ append_assoc w.octets one (canonical_all w.order (place_of w + length one) xs))

-- values that were written alone are left, and nothing behind them
pub left_again : ValuesAreReadAgain → (values : List Value) (w : Writing) (octets : List ℕ) → AllFit values → w ≡ with_values blank values → octets ≡ w.octets → AreLeft values (standing Big 0 octets)
left_again again values w octets fit written is =
    let all = canonical_all Big 0 values in
    let parts : octets ≡ all = is ∙ ap (λ (x : Writing). x.octets) (written ∙ with_values-is blank values) in
    let h : ReadsAll (standing Big 0 (all ++ [])) values (standing Big (0 + length all) []) = again Big 0 values [] fit in
    record {
      behind = standing Big (0 + length all) [];
      stand = subst (λ (xs : List ℕ). ReadsAll (standing Big 0 xs) values (standing Big (0 + length all) [])) (append-nil all ∙ sym parts) h;
      few = omega arith;
    }
