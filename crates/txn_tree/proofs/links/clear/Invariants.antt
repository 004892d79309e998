-- The links that were passed are taken away.
use Rattle.std.proofs.Common.{◌≡◌, ℕ, ◌<◌, length, None}
use Rattle.txn_tree.specs.Links.{last, AreWide}
use Rattle.txn_tree.proofs.links.clear.Given as goal

abbrev pub invariant-loop-place : goal.invariant-loop-place
invariant-loop-place l = record {
  wide : AreWide l.links;
  same : length l.links ≡ length l.fn.links;
  none : (a n : ℕ) → a < l.place-index → last l.links a n ≡ None;
}
