use Rattle.std.proofs.Common.{ap, ◌∙◌, List, ℕ}
use Rattle.std.specs.List.{fold}
use Rattle.otid_names.specs.Name.{hashed}
use Rattle.otid_names.proofs.name.own_hash.Goals as goal

pub returns : goal.returns
returns c = c.hash_octets.ensures ∙ ap (λ (xs : List ℕ). fold hashed 0 xs) c.own_tid.ensures
