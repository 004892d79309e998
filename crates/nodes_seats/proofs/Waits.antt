-- Words that wait, by slot.
use Rattle.std.proofs.Common.{◌≡◌, ℕ, ◌+◌, true, false, List, [], ◌∷◌, ◌++◌, drop, slice_get, Option, Some, None, Ok, refl, sym, ap, subst, ◌∙◌}
use Rattle.std.specs.Option.{option_to_list}
use Rattle.std.proofs.lemmas.Bool.{eqb-false, eqb-true}
use Rattle.ots_model.specs.declared.tree.Outward.{Outward}
use Rattle.ots_world.specs.declared.fault.WorldFault.{WorldFault}
use Rattle.nodes_world.specs.Happenings.{requests, requests_all}
use Rattle.nodes_world.specs.World.{World}
use Rattle.nodes_state.specs.Does.{BreaksOff, Does}
use Rattle.nodes_state.proofs.Progress.{IsDoing, doing_breaks, doing_ends, doing_goes_on}
use Rattle.nodes_seats.specs.Waiting.{AreOf, BeginsOther, IsSplit, is_of, waiting_words}
use Rattle.nodes_seats.specs.declared.waiting.Waiting.{Waiting}
use Rattle.nodes_seats.proofs.Ticks.{requests_grow}

pub first_waits : (words : List Outward) (next : Option Outward) → next ≡ slice_get words 0 → option_to_list next ++ drop 1 words ≡ words
first_waits [] None e = refl
first_waits [] (Some o) e = absurd (cc e)
first_waits (x ∷ words) None e = absurd (cc e)
first_waits (x ∷ words) (Some o) e = let same : o ≡ x = cc in ap (λ (y : Outward). y ∷ words) same

pub none_waits : (words : List Outward) (next : Option Outward) → next ≡ slice_get words 0 → next ≡ None → drop 1 words ≡ []
none_waits [] next e none = refl
none_waits (x ∷ words) next e none = absurd cc

-- ---- the next one is looked at

pub other_waits : (slot : ℕ) (next : Option Outward) (words : List Outward) → (next ≡ None → words ≡ []) → is_of slot next ≡ false
    → BeginsOther slot (option_to_list next ++ words)
other_waits slot None words primed off = subst (λ ws. BeginsOther slot ws) (sym (primed refl)) tt
other_waits slot (Some o) words primed off = eqb-false o.number.slot slot off

pub record IsOwn (slot : ℕ) (next : Option Outward) : Type 0 where
  pub word : Outward
  pub is : next ≡ Some word
  pub own : word.number.slot ≡ slot

pub own_waits : (slot : ℕ) (next : Option Outward) → is_of slot next ≡ true → IsOwn slot next
own_waits slot None on = absurd (cc on)
own_waits slot (Some o) on = record { word = o; is = refl; own = eqb-true o.number.slot slot on }

-- ---- the words of one family go out

record NextOwn (left rest more : List Outward) (o : Outward) : Type 0 where
  others : List Outward
  splits : left ≡ o ∷ others
  more_are : more ≡ others ++ rest

next_own : (slot : ℕ) (left rest more : List Outward) (o : Outward) → left ++ rest ≡ o ∷ more → o.number.slot ≡ slot → BeginsOther slot rest → NextOwn left rest more o
next_own slot [] rest more o e own other = absurd ((subst (λ ws. BeginsOther slot ws) e other) own)
next_own slot (x ∷ left) rest more o e own other =
    let same : x ≡ o = cc in
    let after : left ++ rest ≡ more = cc in
    record { others = left; splits = ap (λ (y : Outward). y ∷ left) same; more_are = sym after }

none_own : (slot : ℕ) (left rest : List Outward) → BeginsOther slot (left ++ rest) → AreOf slot left → left ≡ []
none_own slot [] rest other all = refl
none_own slot (x ∷ left) rest other all = absurd (other all.0)

-- these of its words are still to go out
pub record IsSending (slot place : ℕ) (own rest : List Outward) (first : World) (before : List ℕ) (words : Waiting) (w : World) (now : List ℕ) : Type 0 where
  pub left : List Outward
  pub words_are : waiting_words words ≡ left ++ rest
  pub all_own : AreOf slot left
  pub others : BeginsOther slot rest
  pub doing : IsDoing (requests_all place own first) before (requests_all place left w) now

pub sending_begins : (slot place : ℕ) (own rest : List Outward) (words : Waiting) (w : World) (now : List ℕ) → IsSplit slot own rest words
    → IsSending slot place own rest w now words w now
sending_begins slot place own rest words w now split = record {
  left = own;
  words_are = split.words;
  all_own = split.all_own;
  others = split.others;
  doing = record { goes = λ v after result d. d };
}

module _ (slot place : ℕ) (own rest : List Outward) (first : World) (before : List ℕ) (words : Waiting) (w : World) (now : List ℕ)
    (sending : IsSending slot place own rest first before words w now) where
  module _ (more : Waiting) (o : Outward) (taken : waiting_words words ≡ o ∷ waiting_words more) (is_own : o.number.slot ≡ slot) where
    next : NextOwn sending.left rest (waiting_words more) o
    next = next_own slot sending.left rest (waiting_words more) o (sym sending.words_are ∙ taken) is_own sending.others

    going : IsDoing (requests_all place own first) before (requests_all place (o ∷ next.others) w) now
    going = subst (λ ws. IsDoing (requests_all place own first) before (requests_all place ws w) now) next.splits sending.doing

    pub sending_goes_on : (v : World) (later : List ℕ) → Does (requests place o w) v now later (Ok tt) → IsSending slot place own rest first before more v later
    sending_goes_on v later does = record {
      left = next.others;
      words_are = next.more_are;
      all_own = (subst (λ ws. AreOf slot ws) next.splits sending.all_own).1;
      others = sending.others;
      doing = doing_goes_on (requests_all place own first) (requests place o w) (requests_all place next.others) v before now later going does.0 does.1;
    }

    pub sending_breaks : (fault : WorldFault) (later : List ℕ) → BreaksOff (requests place o w) fault now later → BreaksOff (requests_all place own first) fault before later
    sending_breaks fault later broken =
        doing_breaks (requests_all place own first) (requests place o w) (requests_all place next.others) fault before now later going (requests_grow place next.others) broken

  module _ (more : Waiting) (stays : waiting_words words ≡ waiting_words more) (begins : BeginsOther slot (waiting_words more)) where
    none_left : sending.left ≡ []
    none_left = none_own slot sending.left rest (subst (λ ws. BeginsOther slot ws) (sym stays ∙ sending.words_are) begins) sending.all_own

    pub sending_ends : Does (requests_all place own first) w before now (Ok tt)
    sending_ends = doing_ends (requests_all place own first) w before now
        (subst (λ ws. IsDoing (requests_all place own first) before (requests_all place ws w) now) none_left sending.doing)

    pub rest_waits : waiting_words more ≡ rest
    rest_waits = sym stays ∙ sending.words_are ∙ ap (λ ws. ws ++ rest) none_left
