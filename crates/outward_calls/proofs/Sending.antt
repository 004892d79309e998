-- A word as an exchange, or as none.
use Rattle.std.proofs.Common.{◌≡◌, ◌∙◌, ◌<◌, ◌≤◌, ◌⊎◌, inl, inr, refl, sym, subst, ap, arith, ℕ, List, length, Option, None, Some, Err}
use Rattle.std.specs.Prelude.{IfSome}
use Rattle.giop_frames.specs.Encode.{spelling}
use Rattle.giop_frames.specs.declared.layout.Version.TheVariants.{V1_2}
use Rattle.giop_frames.specs.declared.message.Message.TheVariants as messages
use Rattle.giop_frames.specs.declared.message.Request.{Request}
use Rattle.ior_refs.specs.declared.profile.Iiop.{Iiop}
use Rattle.ots_model.specs.declared.completion.Heard.{Heard as PhaseHeard}
use Rattle.ots_model.specs.declared.completion.Heard.TheVariants.{Lost, Starved}
use Rattle.ots_model.specs.declared.tree.Heard.{Heard}
use Rattle.ots_model.specs.declared.tree.Heard.TheVariants.{Phase}
use Rattle.ots_model.specs.declared.tree.Outward.{Outward}
use Rattle.ots_calls.specs.declared.call.Call.{Call}
use Rattle.ots_outside.specs.Links.{Exchanges, more}
use Rattle.ots_outside.specs.declared.link.Exchange.{Exchange}
use Rattle.ots_outside.specs.declared.link.LinkRefusal.{LinkRefusal}
use Rattle.ots_outside.specs.declared.link.LinkRefusal.TheVariants as refusals
use Rattle.ots_outside.specs.declared.link.Outcome.{Outcome}
use Rattle.ots_outside.specs.declared.link.Outcome.TheVariants.{Refused, Replied}
use Rattle.outward_calls.specs.Words.{Home, IsHeard, IsPlace, IsRequestFor, IsSent, call_for}
use Rattle.outward_calls.specs.WordsInside.{IsNowhere, IsStarved, IsUnspoken}

-- a reference tells one place
one_place : (octets : List ℕ) (p q : Iiop) → IsPlace octets p → IsPlace octets q → p ≡ q
one_place octets p q a b =
    let same : a.reference ≡ b.reference = cc (a.read, b.read) in
    cc (a.place_is, b.place_is, same)

too_long : (n : ℕ) → n ≤ 256 → 256 < n → ⊥
too_long n few many = omega (arith, few, many)

module _ (from : Home) (word : Outward) (done : List Exchange) (after : Option (List Exchange)) where
  pub nowhere : (heard : PhaseHeard) → IsNowhere word.to heard → after ≡ Some done → IsSent from word (Phase heard) done after
  nowhere heard (inl starved) same = inr (record { unsaid = same; unsent = inl (ap (λ x. Phase x) starved) })
  nowhere heard (inr (other, none)) same = inr (record {
    unsaid = same;
    unsent = inr (ap (λ x. Phase x) other, λ place request r. too_long (length place.key) r.key_fits (none place r.place_is));
  })

  pub unspoken : (place : Iiop) → IsPlace word.to place → (heard : PhaseHeard) → IsUnspoken from word place heard → after ≡ Some done
      → IsSent from word (Phase heard) done after
  unspoken place is heard (inl starved) same = inr (record { unsaid = same; unsent = inl (ap (λ x. Phase x) starved) })
  unspoken place is heard (inr (other, none)) same = inr (record {
    unsaid = same;
    unsent = inr (
      ap (λ x. Phase x) other,
      λ p request r.
          none request (subst (λ x. IsRequestFor from word x request) (one_place word.to p place r.place_is is) r),
    );
  })

  pub starved : (heard : PhaseHeard) → IsStarved heard → after ≡ Some done → IsSent from word (Phase heard) done after
  starved heard is same = inr (record { unsaid = same; unsent = inl (ap (λ x. Phase x) is) })

  module _ (place : Iiop) (octets : List ℕ) (request : Request) (is : IsRequestFor from word place request)
      (spelled : octets ≡ spelling V1_2 (messages.Request request)) where
    went : (outcome : Outcome) (heard : Heard) → after ≡ Some (more done (record { host = place.host; port = place.port }) octets outcome)
        → IsHeard word.number.serial (call_for from word word.word) outcome heard → IsSent from word heard done after
    went outcome heard exchanged heard_is = inl (record {
      place = place;
      request = request;
      request_is = is;
      outcome = outcome;
      exchanged = subst (λ o. after ≡ Some (more done (record { host = place.host; port = place.port }) o outcome)) spelled exchanged;
      heard_is = heard_is;
    })

    pub answered : (reply : List ℕ) (heard : Heard)
        → after ≡ Some (more done (record { host = place.host; port = place.port }) octets (Replied reply))
        → IsHeard word.number.serial (call_for from word word.word) (Replied reply) heard → IsSent from word heard done after
    answered reply heard exchanged heard_is = went (Replied reply) heard exchanged heard_is

    pub failed : after ≡ Some (more done (record { host = place.host; port = place.port }) octets (Refused refusals.Failed))
        → IsSent from word (Phase Lost) done after
    failed exchanged = went (Refused refusals.Failed) (Phase Lost) exchanged refl

    pub starving : (after ≡ Some done) ⊎ (after ≡ Some (more done (record { host = place.host; port = place.port }) octets (Refused refusals.Memory)))
        → IsSent from word (Phase Starved) done after
    starving (inl none) = starved Starved refl none
    starving (inr exchanged) = went (Refused refusals.Memory) (Phase Starved) exchanged refl

-- ---- where the link tells its exchanges

module _ (from : Home) (word : Outward) where
  pub nowhere_where : (o : Option (List Exchange)) (heard : PhaseHeard) → IsNowhere word.to heard
      → IfSome o (λ done. IsSent from word (Phase heard) done o)
  nowhere_where None heard h = tt
  nowhere_where (Some done) heard h = nowhere from word done (Some done) heard h refl

  pub starved_where : (o : Option (List Exchange)) (heard : PhaseHeard) → IsStarved heard
      → IfSome o (λ done. IsSent from word (Phase heard) done o)
  starved_where None heard h = tt
  starved_where (Some done) heard h = starved from word done (Some done) heard h refl

module _ (from : Home) (word : Outward) (place : Iiop) where
  pub unspoken_where : (o : Option (List Exchange)) (heard : PhaseHeard) → IsPlace word.to place → IsUnspoken from word place heard
      → IfSome o (λ done. IsSent from word (Phase heard) done o)
  unspoken_where None heard is h = tt
  unspoken_where (Some done) heard is h = unspoken from word done (Some done) place is heard h refl

  module _ (octets sent : List ℕ) (same : sent ≡ octets) where
    pub heard_where : (o after : Option (List Exchange)) (filled reply : List ℕ) (call : Call) (heard : Heard)
        → (request : Request) × IsRequestFor from word place request × (octets ≡ spelling V1_2 (messages.Request request))
        → filled ≡ reply → call ≡ call_for from word word.word
        → IfSome o (λ done. after ≡ Some (more done (record { host = place.host; port = place.port }) sent (Replied filled)))
        → IsHeard word.number.serial call (Replied reply) heard → IfSome o (λ done. IsSent from word heard done after)
    heard_where None after filled reply call heard spelled fills calls exchanged hears = tt
    heard_where (Some done) after filled reply call heard (request, is, spelled) fills calls exchanged hears =
        answered from word done after place sent request is (same ∙ spelled) filled heard exchanged
        (subst (λ x. IsHeard word.number.serial x (Replied filled) heard) calls
        (subst (λ x. IsHeard word.number.serial call (Replied x) heard) (sym fills) hears))

    pub failed_where : (o after : Option (List Exchange)) (filled : List ℕ) (fault : LinkRefusal)
        → (request : Request) × IsRequestFor from word place request × (octets ≡ spelling V1_2 (messages.Request request))
        → fault ≡ refusals.Failed
        → IfSome o (λ done. Exchanges done (record { host = place.host; port = place.port }) sent (Err fault) filled after)
        → IfSome o (λ done. IsSent from word (Phase Lost) done after)
    failed_where None after filled fault spelled is_failed exchanged = tt
    failed_where (Some done) after filled fault (request, is, spelled) is_failed exchanged =
        failed from word done after place sent request is (same ∙ spelled)
        (subst (λ x. Exchanges done (record { host = place.host; port = place.port }) sent (Err x) filled after) is_failed exchanged)

    pub starving_where : (o after : Option (List Exchange)) (filled : List ℕ) (fault : LinkRefusal)
        → (request : Request) × IsRequestFor from word place request × (octets ≡ spelling V1_2 (messages.Request request))
        → fault ≡ refusals.Memory
        → IfSome o (λ done. Exchanges done (record { host = place.host; port = place.port }) sent (Err fault) filled after)
        → IfSome o (λ done. IsSent from word (Phase Starved) done after)
    starving_where None after filled fault spelled is_memory exchanged = tt
    starving_where (Some done) after filled fault (request, is, spelled) is_memory exchanged =
        starving from word done after place sent request is (same ∙ spelled)
        (subst (λ x. Exchanges done (record { host = place.host; port = place.port }) sent (Err x) filled after) is_memory exchanged)
