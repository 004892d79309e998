-- What a resource sees of a cell.
use Rattle.std.proofs.Common.{◌≡◌, ◌∙◌, ℕ, Bool, true, false, cond, Option, Some, None, refl, ap}
use Rattle.std.specs.Prelude.{Ok, Err}
use Rattle.std.specs.Option.{option_or}
use Rattle.ior_refs.specs.declared.key.ObjectKey.{ObjectKey}
use Rattle.resource_end.specs.declared.fault.EndFault.TheVariants as faults
use Rattle.resource_end.specs.States.{holds}
use Rattle.resource_end.specs.Cells.{value_at}
use Rattle.resource_end.specs.End.{End, Resource, named, stored}
use Rattle.resource_end.specs.Calls.{answers, get, on, seen}
use Rattle.resource_end.specs.Inside.{own}

seen_by : (b : Bool) (o s : Option ℕ) → cond b (option_or o s) s ≡ option_or (cond b o None) s
seen_by true o s = refl
seen_by false o s = refl

pub get_none : (key : ObjectKey) (cell : ℕ) (e : End) → named key e ≡ None → get key cell e ≡ Err faults.ObjectNotExist
unfolding get
get_none key cell e is = ap (λ o. (on o e (λ r. answers (Ok (seen cell e r)) e)).answer) is

pub get_some : (key : ObjectKey) (cell : ℕ) (e : End) (r : Resource) → named key e ≡ Some r → get key cell e ≡ Ok (option_or (own cell r) (stored cell e))
unfolding get
get_some key cell e r is =
    ap (λ o. (on o e (λ r. answers (Ok (seen cell e r)) e)).answer) is ∙ ap (λ x. Ok x) (seen_by (holds r.state) (value_at cell r.puts) (stored cell e))
