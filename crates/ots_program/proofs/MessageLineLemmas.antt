use Rattle.std.proofs.Common.{◌≡◌, ℕ, ◌-◌, ◌≤◌, List, [], ◌∷◌, ◌++◌, length, take, drop, map, get_or, sym, ap, arith}
use Rattle.std.proofs.lemmas.List.{append-nil, take_all}
use Rattle.std.specs.List.{join_with_byte, flat_map}
use Rattle.std.specs.Fmt.{decimal}
use Rattle.giop_frames.specs.declared.message.ServiceContext.{ServiceContext}
use Rattle.ots_program.specs.MessageLine.{contexts_word}

-- the ids of contexts, one after another with a comma before each but the first
pub joined_ids : (first : ServiceContext) (others : List ServiceContext)
    → join_with_byte 44 (map (λ (c : ServiceContext). decimal c.id) (first ∷ others))
    ≡ decimal first.id ++ flat_map (λ (c : ServiceContext). 44 ∷ decimal c.id) others
joined_ids first [] = sym (append-nil (decimal first.id))
joined_ids first (c ∷ cs) = ap (λ (rest : List ℕ). decimal first.id ++ (44 ∷ rest)) (joined_ids c cs)

-- the word of contexts, by the first and those behind it
pub first_and_others : (contexts : List ServiceContext) (first : ServiceContext) → 1 ≤ length contexts → first ≡ get_or contexts 0 first
    → contexts_word contexts ≡ decimal first.id ++ flat_map (λ (c : ServiceContext). 44 ∷ decimal c.id) (take (length contexts - 1) (drop 1 contexts))
first_and_others [] first h e = absurd (omega arith)
first_and_others (c ∷ cs) first h e = rw (take_all (length (c ∷ cs) - 1) cs (omega arith), e) (joined_ids c cs)
