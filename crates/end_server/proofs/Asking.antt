-- Words that go out one after another.
use Rattle.std.proofs.Common.{◌≡◌, ◌∙◌, ap, refl, sym, subst, Bool, true, false, ◌||◌, List, [], ◌∷◌, ◌++◌, drop, slice_get, Some, Result, Ok, Err}
use Rattle.std.proofs.lemmas.List.Folds.{list_any-append}
use Rattle.std.specs.List.{list_any}
use Rattle.ots_model.specs.declared.tree.Heard.{Heard}
use Rattle.ots_model.specs.declared.tree.Outward.{Outward}
use Rattle.resource_end.specs.declared.fault.EndFault.{EndFault}
use Rattle.std.specs.Prelude.{OnOk}
use Rattle.std.specs.Result.{is_err}
use Rattle.outward_calls.specs.Moment.{LinkMoment}
use Rattle.end_room.specs.Deeds.{Deed, Asks}
use Rattle.end_room.specs.Place.{EndPlace}
use Rattle.ots_sessions.specs.declared.fault.ServeFault.{ServeFault}
use Rattle.end_server.specs.Serving.{EndSide, side}
use Rattle.end_server.specs.Ticking.{HaveAsked, HaveAskedSo, IsAsking, TicksEnd, is_want, none, one_more}

or_false : (b : Bool) → (b || false) ≡ b
or_false true = refl
or_false false = refl

starved_more : (heards : List Heard) (heard : Heard) → list_any is_want (heards ++ heard ∷ []) ≡ (list_any is_want heards || is_want heard)
starved_more heards heard = list_any-append is_want heards (heard ∷ []) ∙ ap (λ b. list_any is_want heards || b) (or_false (is_want heard))

first_word : (words : List Outward) (word : Outward) → slice_get words 0 ≡ Some word → words ≡ word ∷ drop 1 words
first_word [] word h = absurd (cc (h))
first_word (w ∷ words) word h = let same : w ≡ word = cc (h) in ap (λ x. x ∷ words) same

module _ {E : Type 0} (does : E → Deed → E → Type 0) (place : EndPlace) (words : List Outward) (before : EndSide E) where
  pub asks_first : HaveAskedSo does place words before false words before
  asks_first = record { heards = []; asked = none; starved_is = refl }

  pub asks_next : (own : EndPlace) → own ≡ place → (starved wanted after_starved : Bool) (rest : List Outward) (word : Outward) (heard : Heard)
      (midway after : EndSide E) → HaveAskedSo does place words before starved rest midway → slice_get rest 0 ≡ Some word
      → IsAsking does own word heard midway after → wanted ≡ is_want heard → after_starved ≡ (starved || wanted)
      → HaveAskedSo does place words before after_starved (drop 1 rest) after
  asks_next own same starved wanted after_starved rest word heard midway after h first asking want is = record {
    heards = h.heards ++ heard ∷ [];
    asked = one_more h.heards heard word (drop 1 rest) midway after
        (subst (λ w. HaveAsked does place words before h.heards w midway) (first_word rest word first) h.asked)
        (subst (λ p. IsAsking does p word heard midway after) same asking);
    starved_is = is ∙ ap (λ b. b || wanted) h.starved_is ∙ ap (λ b. list_any is_want h.heards || b) want ∙ sym (starved_more h.heards heard);
  }

done_of : (said : Result (Unit {0}) EndFault) → is_err said ≡ false → said ≡ Ok tt
done_of (Ok done) is = refl
done_of (Err fault) is = absurd (cc (is))

-- there was memory for all, where that is said
pub fed_of : (said : Result (Unit {0}) ServeFault) (asking : Result (Unit {0}) EndFault) (starved wanted : Bool) → starved ≡ wanted
    → OnOk said ((is_err asking ≡ false) × (starved ≡ false)) → OnOk said ((asking ≡ Ok tt) × (wanted ≡ false))
fed_of (Ok done) asking starved wanted same fed = (done_of asking fed.0, sym same ∙ fed.1)
fed_of (Err fault) asking starved wanted same fed = tt

-- those that wait for an outcome have asked
pub ticks_end : {E : Type 0} (does : E → Deed → E → Type 0) (place own : EndPlace) → own ≡ place → (ends asked : E) (link : LinkMoment)
    (first words : List Outward) → first ≡ [] → (asking : Result (Unit {0}) EndFault) → does ends (Asks first words asking) asked
    → (starved : Bool) (after : EndSide E) → HaveAskedSo does own words (side asked link) starved [] after
    → (said : Result (Unit {0}) ServeFault) → OnOk said ((is_err asking ≡ false) × (starved ≡ false))
    → TicksEnd does place (side ends link) said after
ticks_end does place own same ends asked link first words none_before asking asks starved after h said fed = record {
  asking = asking;
  words = words;
  midway = side asked link;
  asks = record {
    deed_is = subst (λ x. does ends (Asks x words asking) asked) none_before asks;
    unsaid = refl;
  };
  heards = h.heards;
  asked = subst (λ p. HaveAsked does p words (side asked link) h.heards [] after) same h.asked;
  fed = fed_of said asking starved (list_any is_want h.heards) h.starved_is fed;
}
