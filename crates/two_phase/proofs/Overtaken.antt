-- What is known where a completion may be rolled back from outside.
use Rattle.std.proofs.Common.{◌≡◌, refl, ◌≤◌, suc, ◌&&◌, Bool, true, false, if◌then◌else◌, Option, Some, None, is_none, arith, ap, sym, ◌∙◌}
use Rattle.ots_model.specs.declared.completion.Outcome.TheVariants as outcomes
use Rattle.ots_model.specs.declared.completion.CallNumber.{CallNumber}
use Rattle.ots_model.specs.declared.tree.Reason.{Reason}
use Rattle.two_phase.specs.Course.{Course, outcome, may_roll_back, overtaken_number, following}

left_of : (a b d : Bool) → (a && b && d) ≡ true → a ≡ true
left_of true b d e = refl
left_of false b d e = absurd (cc (e))

-- then it ends by that
pub overtaken_ends : (c : Course) (r : Reason) → c.overtaken ≡ Some r → outcome c ≡ Some (outcomes.Rollback r)
unfolding outcome
overtaken_ends c r e = rw e refl

by_reason : (c : Course) (o : Option Reason) → c.overtaken ≡ o → is_none (outcome c) ≡ true → o ≡ None
by_reason c None e h = refl
by_reason c (Some r) e h = let f : false ≡ true = ap is_none (sym (overtaken_ends c r e)) ∙ h in absurd (cc (f))

-- it wasn't before
pub not_overtaken : (c : Course) → may_roll_back c ≡ true → c.overtaken ≡ None
not_overtaken c may = by_reason c c.overtaken refl (left_of (is_none (outcome c)) _ _ may)

by_out : (b : Bool) (n : CallNumber) → (if b then following n else n).serial ≤ suc n.serial
by_out true n = omega arith
by_out false n = omega arith

pub number_less : (c : Course) → (overtaken_number c).serial ≤ suc c.number.serial
number_less c = by_out _ c.number
