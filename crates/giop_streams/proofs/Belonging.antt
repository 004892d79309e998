-- The list that the definition of streams keeps, and the messages of its parts, by what is said of all parts at once.
use Rattle.std.proofs.Common.{◌≡◌, ℕ, suc, ◌<◌, ◌≤◌, ◌==◌, Bool, true, false, cond, ltb, List, [], ◌∷◌, ◌++◌, length, drop, Option, Some, None, Result, Ok, Err, refl, sym, ap, subst, ◌∙◌, ◌⊎◌, inl, inr, append_assoc, arith}
use Rattle.std.specs.Prelude.{◌||◌, ◌&&◌, is_some, nat_le, not}
use Rattle.std.specs.List.{list_any}
use Rattle.std.proofs.lemmas.List.{append-nil, length-append}
use Rattle.std.proofs.lemmas.Bool.{eqb-true, eq-eqb}
use Rattle.cdr_values.specs.declared.fault.CdrFault.TheVariants as cdr
use Rattle.giop_streams.specs.declared.framed.Framed.{Framed}
use Rattle.giop_frames.specs.declared.fault.FrameFault.{FrameFault}
use Rattle.giop_frames.specs.declared.fault.FrameFault.TheVariants.{BadFragment, Body, TooLarge}
use Rattle.giop_frames.specs.declared.header.Header.{Header}
use Rattle.giop_frames.specs.declared.message.Message.{Message}
use Rattle.giop_frames.specs.Limits.{size_limit}
use Rattle.giop_streams.specs.Limits.{unfinished_limit}
use Rattle.giop_frames.specs.Header.{is_fragment}
use Rattle.giop_frames.specs.Content.{message_by, start_by}
use Rattle.giop_streams.specs.Stream.{Part, Unfinished, AreTaken, Judgement, after, begun_by, continuing, continuation, earliest, extended, given, going_on, id_of, joined, judged, messages_of, numbered, offset, opening, says, so_far, unfinished, whole, with_more, with_octets, without, without_id, whole_by}
use Rattle.giop_streams.specs.SeveralParts.{AreEnded, EndsNext, EndsSeveral, IsEarliestPlace, IsPartOf, begun_at, is_first, is_fragment_of, is_last_of, is_open, octets_of, open_messages}
use Rattle.giop_streams.proofs.Results.{guard_ok}
use Rattle.giop_streams.proofs.Numbered.{cases_bool, extended_here, extended_on, without_here, without_on, some_is}
use Rattle.giop_streams.proofs.Joining.{AreApart, after_end, after_first, after_piece, after_whole, all_apart, joins, judged_opening, number_free, numbered_here, numbered_on, other_way}

-- ---- one more part behind a message that was begun

-- it is no Fragment of that message's request_id
open_same : (first p : Part) (since : List Part) → is_fragment_of (id_of first) p ≡ false → is_open first (p ∷ since) ≡ is_open first since
open_same first p since e = rw e refl

begun_same : (first p : Part) (before since : List Part) → is_fragment_of (id_of first) p ≡ false → begun_at first before (p ∷ since) ≡ begun_at first before since
begun_same first p before since e =
    let joins : List ℕ → Unfinished = λ octets. record { id = id_of first; place = offset before; header = first.header; content = first.content ++ octets } in
    rw e (ap joins (append-nil (octets_of (id_of first) since)))

-- it is a Fragment of that message, and not the last
open_longer : (first p : Part) (since : List Part) → p.header.more ≡ true → is_open first (p ∷ since) ≡ is_open first since
open_longer first p since m =
    elim (cases_bool (is_fragment_of (id_of first) p)) [ inl e ↦ rw (e, m) refl | inr e ↦ open_same first p since e ]

begun_longer : (first p : Part) (before since : List Part) → is_fragment_of (id_of first) p ≡ true → begun_at first before (p ∷ since) ≡ with_more (drop 4 p.content) (begun_at first before since)
begun_longer first p before since e =
    let joins : List ℕ → Unfinished = λ octets. record { id = id_of first; place = offset before; header = first.header; content = octets } in
    rw e (ap joins (sym (append_assoc first.content (octets_of (id_of first) since) (drop 4 p.content))))

-- or it is the last
open_ended : (first p : Part) (since : List Part) → is_fragment_of (id_of first) p ≡ true → p.header.more ≡ false → is_open first (p ∷ since) ≡ false
open_ended first p since e m =
    elim (cases_bool (is_first first)) [ inl f ↦ rw (f, e, m) refl | inr f ↦ rw f refl ]

-- what no Fragment can be
no_fragment : (id : ℕ) (p : Part) → is_fragment p.header.kind ≡ false → is_fragment_of id p ≡ false
no_fragment id p f = rw f refl

fragment_same : (id : ℕ) (p : Part) → is_fragment p.header.kind ≡ true → is_fragment_of id p ≡ (id_of p == id)
fragment_same id p f = rw f refl

other_id : (id : ℕ) (p : Part) → (id_of p == id) ≡ false → is_fragment_of id p ≡ false
other_id id p e = elim (cases_bool (is_fragment p.header.kind)) [ inl f ↦ rw (f, e) refl | inr f ↦ rw f refl ]

turned : (a b : ℕ) → (a == b) ≡ (b == a)
turned a b =
    elim (cases_bool (a == b)) [
      | inl e ↦ e ∙ sym (eq-eqb b a (sym (eqb-true a b e)))
      | inr e ↦ e ∙ sym (other_way a b e)
    ]

-- ---- what one more part makes of a list of messages

-- more octets for each message of this request_id
abbrev onto : ℕ → List ℕ → List Unfinished → List Unfinished
onto id octets [] = []
onto id octets (u ∷ others) = cond (u.id == id) (with_more octets u) u ∷ onto id octets others

-- no message of this request_id
abbrev other_than : ℕ → List Unfinished → List Unfinished
other_than id [] = []
other_than id (u ∷ others) = cond (u.id == id) (other_than id others) (u ∷ other_than id others)

onto-append : (id : ℕ) (octets : List ℕ) (us vs : List Unfinished) → onto id octets (us ++ vs) ≡ onto id octets us ++ onto id octets vs
onto-append id octets [] vs = refl
onto-append id octets (u ∷ us) vs = ap (λ (xs : List Unfinished). cond (u.id == id) (with_more octets u) u ∷ xs) (onto-append id octets us vs)

other-append : (id : ℕ) (us vs : List Unfinished) → other_than id (us ++ vs) ≡ other_than id us ++ other_than id vs
other-append id [] vs = refl
other-append id (u ∷ us) vs =
    elim (cases_bool (u.id == id)) [
      | inl e ↦ rw e (other-append id us vs)
      | inr e ↦ rw e (ap (λ (xs : List Unfinished). u ∷ xs) (other-append id us vs))
    ]

-- the message that a part begins, where it is open
abbrev opened : Part → List Part → List Part → List Unfinished
opened p before since = cond (is_open p since) (begun_at p before since ∷ []) []

opened_is : (p : Part) (before since : List Part) (b : Bool) → is_open p since ≡ b → opened p before since ≡ cond b (begun_at p before since ∷ []) []
opened_is p before since b e = ap (λ (x : Bool). cond x (begun_at p before since ∷ []) []) e

-- a part that is no Fragment
opened_same : (q p : Part) (before since : List Part) → is_fragment q.header.kind ≡ false → opened p before (q ∷ since) ≡ opened p before since
opened_same q p before since f =
    let e = no_fragment (id_of p) q f in
    ap (λ (x : Bool). cond x (begun_at p before (q ∷ since) ∷ []) []) (open_same p q since e)
    ∙ ap (λ (u : Unfinished). cond (is_open p since) (u ∷ []) []) (begun_same p q before since e)

all_same : (q : Part) (since parts : List Part) → is_fragment q.header.kind ≡ false → open_messages (q ∷ since) parts ≡ open_messages since parts
all_same q since [] f = refl
all_same q since (p ∷ before) f =
    ap (λ (us : List Unfinished). us ++ opened p before (q ∷ since)) (all_same q (since ++ p ∷ []) before f)
    ∙ ap (λ (us : List Unfinished). open_messages (since ++ p ∷ []) before ++ us) (opened_same q p before since f)

-- a Fragment that is not the last of its message
longer_or_same : (q p : Part) (before since : List Part) → is_fragment q.header.kind ≡ true
    → begun_at p before (q ∷ since) ≡ cond (id_of p == id_of q) (with_more (drop 4 q.content) (begun_at p before since)) (begun_at p before since)
longer_or_same q p before since f =
    let t : is_fragment_of (id_of p) q ≡ (id_of p == id_of q) = fragment_same (id_of p) q f ∙ turned (id_of q) (id_of p) in
    elim (cases_bool (id_of p == id_of q)) [
      | inl e ↦ begun_longer p q before since (t ∙ e) ∙ sym (ap (λ (b : Bool). cond b (with_more (drop 4 q.content) (begun_at p before since)) (begun_at p before since)) e)
      | inr e ↦ begun_same p q before since (t ∙ e) ∙ sym (ap (λ (b : Bool). cond b (with_more (drop 4 q.content) (begun_at p before since)) (begun_at p before since)) e)
    ]

opened_longer : (q p : Part) (before since : List Part) → is_fragment q.header.kind ≡ true → q.header.more ≡ true
    → opened p before (q ∷ since) ≡ onto (id_of q) (drop 4 q.content) (opened p before since)
opened_longer q p before since f m =
    let now : is_open p (q ∷ since) ≡ is_open p since = open_longer p q since m in
    elim (cases_bool (is_open p since)) [
      | inl o ↦ opened_is p before (q ∷ since) true (now ∙ o) ∙ ap (λ (u : Unfinished). u ∷ []) (longer_or_same q p before since f)
          ∙ sym (ap (onto (id_of q) (drop 4 q.content)) (opened_is p before since true o))
      | inr o ↦ opened_is p before (q ∷ since) false (now ∙ o) ∙ sym (ap (onto (id_of q) (drop 4 q.content)) (opened_is p before since false o))
    ]

all_longer : (q : Part) (since parts : List Part) → is_fragment q.header.kind ≡ true → q.header.more ≡ true
    → open_messages (q ∷ since) parts ≡ onto (id_of q) (drop 4 q.content) (open_messages since parts)
all_longer q since [] f m = refl
all_longer q since (p ∷ before) f m =
    ap (λ (us : List Unfinished). us ++ opened p before (q ∷ since)) (all_longer q (since ++ p ∷ []) before f m)
    ∙ ap (λ (us : List Unfinished). onto (id_of q) (drop 4 q.content) (open_messages (since ++ p ∷ []) before) ++ us) (opened_longer q p before since f m)
    ∙ sym (onto-append (id_of q) (drop 4 q.content) (open_messages (since ++ p ∷ []) before) (opened p before since))

-- a last one
opened_ended : (q p : Part) (before since : List Part) → is_fragment q.header.kind ≡ true → q.header.more ≡ false
    → opened p before (q ∷ since) ≡ other_than (id_of q) (opened p before since)
opened_ended q p before since f m =
    let t : is_fragment_of (id_of p) q ≡ (id_of p == id_of q) = fragment_same (id_of p) q f ∙ turned (id_of q) (id_of p) in
    elim (cases_bool (id_of p == id_of q)) [
      | inl e ↦ opened_is p before (q ∷ since) false (open_ended p q since (t ∙ e) m) ∙ elim (cases_bool (is_open p since)) [
        | inl o ↦ sym (ap (other_than (id_of q)) (opened_is p before since true o) ∙ ap (λ (b : Bool). cond b [] (begun_at p before since ∷ [])) e)
        | inr o ↦ sym (ap (other_than (id_of q)) (opened_is p before since false o))
      ]
      | inr e ↦ ap (λ (x : Bool). cond x (begun_at p before (q ∷ since) ∷ []) []) (open_same p q since (t ∙ e))
          ∙ ap (λ (u : Unfinished). cond (is_open p since) (u ∷ []) []) (begun_same p q before since (t ∙ e))
          ∙ elim (cases_bool (is_open p since)) [
            | inl o ↦ opened_is p before since true o ∙ sym (ap (other_than (id_of q)) (opened_is p before since true o) ∙ ap (λ (b : Bool). cond b [] (begun_at p before since ∷ [])) e)
            | inr o ↦ opened_is p before since false o ∙ sym (ap (other_than (id_of q)) (opened_is p before since false o))
          ]
    ]

all_ended : (q : Part) (since parts : List Part) → is_fragment q.header.kind ≡ true → q.header.more ≡ false
    → open_messages (q ∷ since) parts ≡ other_than (id_of q) (open_messages since parts)
all_ended q since [] f m = refl
all_ended q since (p ∷ before) f m =
    ap (λ (us : List Unfinished). us ++ opened p before (q ∷ since)) (all_ended q (since ++ p ∷ []) before f m)
    ∙ ap (λ (us : List Unfinished). other_than (id_of q) (open_messages (since ++ p ∷ []) before) ++ us) (opened_ended q p before since f m)
    ∙ sym (other-append (id_of q) (open_messages (since ++ p ∷ []) before) (opened p before since))

-- ---- where no two messages have one request_id, the first is all

onto_none : (id : ℕ) (octets : List ℕ) (us : List Unfinished) → numbered id us ≡ None → onto id octets us ≡ us
onto_none id octets [] none = refl
onto_none id octets (u ∷ us) none =
    elim (cases_bool (u.id == id)) [
      | inl e ↦ let some : Some u ≡ None = sym (numbered_here id u us e) ∙ none in absurd cc
      | inr e ↦ rw e (ap (λ (xs : List Unfinished). u ∷ xs) (onto_none id octets us (sym (numbered_on id u us e) ∙ none)))
    ]

other_none : (id : ℕ) (us : List Unfinished) → numbered id us ≡ None → other_than id us ≡ us
other_none id [] none = refl
other_none id (u ∷ us) none =
    elim (cases_bool (u.id == id)) [
      | inl e ↦ let some : Some u ≡ None = sym (numbered_here id u us e) ∙ none in absurd cc
      | inr e ↦ rw e (ap (λ (xs : List Unfinished). u ∷ xs) (other_none id us (sym (numbered_on id u us e) ∙ none)))
    ]

others_none : (id : ℕ) (u : Unfinished) (us : List Unfinished) → (u.id == id) ≡ true → numbered u.id us ≡ None → numbered id us ≡ None
others_none id u us e none = subst (λ (k : ℕ). numbered k us ≡ None) (eqb-true u.id id e) none

onto_extended : (id : ℕ) (octets : List ℕ) (us : List Unfinished) → AreApart us → extended id octets us ≡ onto id octets us
onto_extended id octets [] h = refl
onto_extended id octets (u ∷ us) h =
    elim (cases_bool (u.id == id)) [
      | inl e ↦ extended_here id octets u us e ∙ ap (λ (xs : List Unfinished). with_more octets u ∷ xs) (sym (onto_none id octets us (others_none id u us e h.0)))
          ∙ sym (ap (λ (b : Bool). cond b (with_more octets u) u ∷ onto id octets us) e)
      | inr e ↦ extended_on id octets u us e ∙ ap (λ (xs : List Unfinished). u ∷ xs) (onto_extended id octets us h.1)
          ∙ sym (ap (λ (b : Bool). cond b (with_more octets u) u ∷ onto id octets us) e)
    ]

other_without : (id : ℕ) (us : List Unfinished) → AreApart us → without id us ≡ other_than id us
other_without id [] h = refl
other_without id (u ∷ us) h =
    elim (cases_bool (u.id == id)) [
      | inl e ↦ without_here id u us e ∙ sym (other_none id us (others_none id u us e h.0))
          ∙ sym (ap (λ (b : Bool). cond b (other_than id us) (u ∷ other_than id us)) e)
      | inr e ↦ without_on id u us e ∙ ap (λ (xs : List Unfinished). u ∷ xs) (other_without id us h.1)
          ∙ sym (ap (λ (b : Bool). cond b (other_than id us) (u ∷ other_than id us)) e)
    ]

-- ---- the list is that of the messages that were begun and not ended

not_open : (p : Part) → is_first p ≡ false → is_open p [] ≡ false
not_open p e = rw e refl

begun_alone : (p : Part) (older : List Part) → begun_at p older [] ≡ begun_by (offset older) p
begun_alone p older =
    let made : List ℕ → Unfinished = λ octets. record { id = id_of p; place = offset older; header = p.header; content = octets } in
    ap made (append-nil p.content)

last_none : (p : Part) (older : List Part) (us : List Unfinished) → is_first p ≡ false → us ++ opened p older [] ≡ us
last_none p older us e = ap (λ (xs : List Unfinished). us ++ xs) (opened_is p older [] false (not_open p e)) ∙ append-nil us

first_of_fragment : (p : Part) → is_fragment p.header.kind ≡ true → is_first p ≡ false
first_of_fragment p f = rw f refl

first_of_whole : (p : Part) → is_fragment p.header.kind ≡ false → p.header.more ≡ false → is_first p ≡ false
first_of_whole p f m = rw (f, m) refl

first_of_more : (p : Part) → is_fragment p.header.kind ≡ false → p.header.more ≡ true → is_first p ≡ true
first_of_more p f m = rw (f, m) refl

open_alone : (p : Part) → is_first p ≡ true → is_open p [] ≡ true
open_alone p e = rw e refl

pub opens : (parts : List Part) → AreTaken parts → unfinished parts ≡ open_messages [] parts
opens [] t = refl
opens (p ∷ older) t =
    let place : ℕ = offset older in
    let us : List Unfinished = unfinished older in
    let now : List Unfinished = open_messages [] older in
    let was : us ≡ now = opens older t.2 in
    elim (cases_bool (is_fragment p.header.kind)) [
      | inl f ↦ elim (cases_bool p.header.more) [
        | inl m ↦ after_piece place p us f m ∙ onto_extended (id_of p) (drop 4 p.content) us (all_apart older t.2) ∙ ap (onto (id_of p) (drop 4 p.content)) was
            ∙ sym (all_longer p [] older f m) ∙ sym (last_none p older (open_messages (p ∷ []) older) (first_of_fragment p f))
        | inr m ↦ after_end place p us f m ∙ other_without (id_of p) us (all_apart older t.2) ∙ ap (other_than (id_of p)) was
            ∙ sym (all_ended p [] older f m) ∙ sym (last_none p older (open_messages (p ∷ []) older) (first_of_fragment p f))
      ]
      | inr f ↦ elim (cases_bool p.header.more) [
        | inl m ↦ after_first place p us f m ∙ ap (λ (xs : List Unfinished). xs ++ begun_by place p ∷ []) (was ∙ sym (all_same p [] older f))
            ∙ ap (λ (u : Unfinished). open_messages (p ∷ []) older ++ u ∷ []) (sym (begun_alone p older))
            ∙ ap (λ (xs : List Unfinished). open_messages (p ∷ []) older ++ xs) (sym (opened_is p older [] true (open_alone p (first_of_more p f m))))
        | inr m ↦ after_whole place p us f m ∙ was ∙ sym (all_same p [] older f) ∙ sym (last_none p older (open_messages (p ∷ []) older) (first_of_whole p f m))
      ]
    ]

-- there are few of them

extended_length : (id : ℕ) (octets : List ℕ) (us : List Unfinished) → length (extended id octets us) ≡ length us
extended_length id octets [] = refl
extended_length id octets (u ∷ us) =
    elim (cases_bool (u.id == id)) [
      | inl e ↦ ap length (extended_here id octets u us e)
      | inr e ↦ ap length (extended_on id octets u us e) ∙ ap (λ (n : ℕ). suc n) (extended_length id octets us)
    ]

without_length : (id : ℕ) (us : List Unfinished) → length (without id us) ≤ length us
without_length id [] = omega arith
without_length id (u ∷ us) =
    elim (cases_bool (u.id == id)) [
      | inl e ↦ let h = ap length (without_here id u us e) in omega (arith, h)
      | inr e ↦ let h = ap length (without_on id u us e) in let k = without_length id us in omega (arith, h, k)
    ]

room_left : (x b : Bool) → (x || b) ≡ false → b ≡ false
room_left true b e = absurd cc
room_left false b e = e

-- a first part that goes on finds room
opened_room : (messages : List Unfinished) (p : Part) (answer : Option Framed) → opening messages p ≡ Ok answer → length messages < unfinished_limit
opened_room messages p answer e =
    let x : Bool = is_some (numbered (id_of p) messages) in
    let full : Bool = nat_le unfinished_limit (length messages) in
    let a = guard_ok (ltb (length p.content) 4) without_id (cond (x || full) (Err BadFragment) (so_far (message_by p.header p.content))) answer e in
    let b = guard_ok (x || full) BadFragment (so_far (message_by p.header p.content)) answer a.1 in
    let c : full ≡ false = room_left x full b.0 in
    grind (arith, c)

few_after : (messages : List Unfinished) (place : ℕ) (p : Part) (answer : Option Framed) → judged messages place p ≡ Ok answer → length messages ≤ unfinished_limit
    → length (after place p messages) ≤ unfinished_limit
few_after messages place p answer said h =
    elim (cases_bool (is_fragment p.header.kind)) [
      | inl f ↦ elim (cases_bool p.header.more) [
        | inl m ↦ omega (arith, ap length (after_piece place p messages f m), extended_length (id_of p) (drop 4 p.content) messages)
        | inr m ↦ omega (arith, ap length (after_end place p messages f m), without_length (id_of p) messages)
      ]
      | inr f ↦ elim (cases_bool p.header.more) [
        | inl m ↦ omega (arith, ap length (after_first place p messages f m), length-append messages (begun_by place p ∷ []), opened_room messages p answer (sym (judged_opening messages place p f m) ∙ said))
        | inr m ↦ omega (arith, ap length (after_whole place p messages f m))
      ]
    ]

few_unfinished : (parts : List Part) → AreTaken parts → length (unfinished parts) ≤ unfinished_limit
few_unfinished [] t = omega arith
few_unfinished (p ∷ older) t = few_after (unfinished older) (offset older) p t.0 t.1 (few_unfinished older t.2)

pub few : (parts : List Part) → AreTaken parts → length (open_messages [] parts) ≤ unfinished_limit
few parts t = subst (λ (us : List Unfinished). length us ≤ unfinished_limit) (opens parts t) (few_unfinished parts t)

-- ---- the earliest of them

-- the first of a list of open messages: no open one stands before it
record Heads (since parts : List Part) : Type 0 where
  first : Part
  before : List Part
  after_it : List Part
  stand : since ++ parts ≡ after_it ++ first ∷ before
  unended : is_open first after_it ≡ true
  none_before : open_messages (after_it ++ first ∷ []) before ≡ []
  others : List Unfinished
  list_is : open_messages since parts ≡ begun_at first before after_it ∷ others

first_open : (since parts : List Part) → Heads since parts ⊎ (open_messages since parts ≡ [])
first_open since [] = inr refl
first_open since (p ∷ before) =
    elim (first_open (since ++ p ∷ []) before) [
      | inl h ↦ inl (record {
        first = h.first;
        before = h.before;
        after_it = h.after_it;
        stand = sym (append_assoc since (p ∷ []) before) ∙ h.stand;
        unended = h.unended;
        none_before = h.none_before;
        others = h.others ++ opened p before since;
        list_is = ap (λ (us : List Unfinished). us ++ opened p before since) h.list_is;
      })
      | inr none ↦ elim (cases_bool (is_open p since)) [
        | inl o ↦ inl (record {
          first = p;
          before = before;
          after_it = since;
          stand = refl;
          unended = o;
          none_before = none;
          others = [];
          list_is = ap (λ (us : List Unfinished). us ++ opened p before since) none ∙ opened_is p before since true o;
        })
        | inr o ↦ inr (ap (λ (us : List Unfinished). us ++ opened p before since) none ∙ opened_is p before since false o)
      ]
    ]

pub earliest_told : (parts : List Part) → AreTaken parts → IsEarliestPlace parts (earliest (offset parts) (unfinished parts))
earliest_told parts t =
    let place : List Unfinished → ℕ = λ us. earliest (offset parts) us in
    elim (first_open [] parts) [
      | inl h ↦ inl (
        h.first,
        h.before,
        h.after_it,
        record {
          stand = h.stand;
          unended = h.unended;
          none_before = h.none_before;
          place_is = ap place (opens parts t ∙ h.list_is);
        },
      )
      | inr none ↦ inr (none, ap place (opens parts t ∙ none))
    ]

-- ---- the message of a Fragment

-- the message of a request_id that goes on behind parts
record Begun (id : ℕ) (parts : List Part) (u : Unfinished) : Type 0 where
  first : Part
  before : List Part
  since : List Part
  stand : parts ≡ since ++ first ∷ before
  unended : is_open first since ≡ true
  numbered_so : id_of first ≡ id
  is : u ≡ begun_at first before since

passed_by : (id : ℕ) (p : Part) (older : List Part) (u : Unfinished) → is_fragment_of id p ≡ false → Begun id older u → Begun id (p ∷ older) u
passed_by id p older u e b =
    let apart : is_fragment_of (id_of b.first) p ≡ false = ap (λ (k : ℕ). is_fragment_of k p) b.numbered_so ∙ e in
    record {
      first = b.first;
      before = b.before;
      since = p ∷ b.since;
      stand = ap (λ (ps : List Part). p ∷ ps) b.stand;
      unended = open_same b.first p b.since apart ∙ b.unended;
      numbered_so = b.numbered_so;
      is = b.is ∙ sym (begun_same b.first p b.before b.since apart);
    }

lengthened_by : (id : ℕ) (p : Part) (older : List Part) (u : Unfinished) → is_fragment_of id p ≡ true → p.header.more ≡ true → Begun id older u → Begun id (p ∷ older) (with_more (drop 4 p.content) u)
lengthened_by id p older u e m b =
    let same : is_fragment_of (id_of b.first) p ≡ true = ap (λ (k : ℕ). is_fragment_of k p) b.numbered_so ∙ e in
    record {
      first = b.first;
      before = b.before;
      since = p ∷ b.since;
      stand = ap (λ (ps : List Part). p ∷ ps) b.stand;
      unended = open_longer b.first p b.since m ∙ b.unended;
      numbered_so = b.numbered_so;
      is = ap (with_more (drop 4 p.content)) b.is ∙ sym (begun_longer b.first p b.before b.since same);
    }

begun_here : (id : ℕ) (p : Part) (older : List Part) → is_first p ≡ true → (id_of p == id) ≡ true → Begun id (p ∷ older) (begun_by (offset older) p)
begun_here id p older f e = record {
  first = p;
  before = older;
  since = [];
  stand = refl;
  unended = open_alone p f;
  numbered_so = eqb-true (id_of p) id e;
  is = sym (begun_alone p older);
}

-- one step of a search through the parts
step_on : (id : ℕ) (p : Part) (older : List Part) → (id_of p == id) ≡ false → going_on id (p ∷ older) ≡ going_on id older
step_on id p older e = rw e refl

step_piece : (id : ℕ) (p : Part) (older : List Part) → (id_of p == id) ≡ true → is_fragment p.header.kind ≡ true → p.header.more ≡ true → going_on id (p ∷ older) ≡ with_octets (drop 4 p.content) (going_on id older)
step_piece id p older e f m = rw (e, f, m) refl

step_end : (id : ℕ) (p : Part) (older : List Part) → (id_of p == id) ≡ true → is_fragment p.header.kind ≡ true → p.header.more ≡ false → going_on id (p ∷ older) ≡ None
step_end id p older e f m = rw (e, f, m) refl

step_first : (id : ℕ) (p : Part) (older : List Part) → (id_of p == id) ≡ true → is_fragment p.header.kind ≡ false → p.header.more ≡ true → going_on id (p ∷ older) ≡ Some (begun_by (offset older) p)
step_first id p older e f m = rw (e, f, m) refl

step_whole : (id : ℕ) (p : Part) (older : List Part) → (id_of p == id) ≡ true → is_fragment p.header.kind ≡ false → p.header.more ≡ false → going_on id (p ∷ older) ≡ going_on id older
step_whole id p older e f m = rw (e, f, m) refl

fragment_is : (id : ℕ) (p : Part) → (id_of p == id) ≡ true → is_fragment p.header.kind ≡ true → is_fragment_of id p ≡ true
fragment_is id p e f = rw (f, e) refl

-- a message with more octets
with_octets_of : (octets : List ℕ) (o : Option Unfinished) (u : Unfinished) → with_octets octets o ≡ Some u → (v : Unfinished) × (o ≡ Some v) × (with_more octets v ≡ u)
with_octets_of octets None u e = absurd cc
with_octets_of octets (Some v) u e = (v, refl, some_is e)

found : (id : ℕ) (parts : List Part) (u : Unfinished) → going_on id parts ≡ Some u → Begun id parts u
found id [] u e = absurd cc
found id (p ∷ older) u e =
    elim (cases_bool (id_of p == id)) [
      | inl i ↦ elim (cases_bool (is_fragment p.header.kind)) [
        | inl f ↦ elim (cases_bool p.header.more) [
          | inl m ↦ let w = with_octets_of (drop 4 p.content) (going_on id older) u (sym (step_piece id p older i f m) ∙ e) in
              subst (λ (v : Unfinished). Begun id (p ∷ older) v) w.2 (lengthened_by id p older w.0 (fragment_is id p i f) m (found id older w.0 w.1))
          | inr m ↦ let none : Some u ≡ None = sym e ∙ step_end id p older i f m in absurd cc
        ]
        | inr f ↦ elim (cases_bool p.header.more) [
          | inl m ↦ subst (λ (v : Unfinished). Begun id (p ∷ older) v) (some_is (sym (step_first id p older i f m) ∙ e)) (begun_here id p older (first_of_more p f m) i)
          | inr m ↦ passed_by id p older u (no_fragment id p f) (found id older u (sym (step_whole id p older i f m) ∙ e))
        ]
      ]
      | inr i ↦ passed_by id p older u (other_id id p i) (found id older u (sym (step_on id p older i) ∙ e))
    ]

-- ---- what a part that is taken says

said_more : (r : Result Message FrameFault) (answer : Option Framed) → so_far r ≡ Ok answer → answer ≡ None
said_more (Ok m) answer e = cc
said_more (Err (Body place (cdr.Short at))) answer e = cc
said_more (Err fault) answer e = absurd cc

said_whole : (place : ℕ) (header : Header) (start : ℕ) (r : Result Message FrameFault) (answer : Option Framed) → whole place header start r ≡ Ok answer → (framed : Framed) × (answer ≡ Some framed)
said_whole place header start (Ok m) None e = absurd cc
said_whole place header start (Ok m) (Some framed) e = (framed, refl)
said_whole place header start (Err fault) answer e = absurd cc

-- a Fragment's message goes on, and its joined octets say what the Fragment says
record Continues (p : Part) (o : Option Unfinished) (answer : Option Framed) : Type 0 where
  message : Unfinished
  is : o ≡ Some message
  says_so : joined p.header.more (drop 4 p.content) message ≡ Ok answer

continues : (p : Part) (o : Option Unfinished) (answer : Option Framed) → continuing p o ≡ Ok answer → Continues p o answer
continues p None answer e = absurd cc
continues p (Some u) answer e = record { message = u; is = refl; says_so = e }

judged_fragment : (messages : List Unfinished) (place : ℕ) (p : Part) → is_fragment p.header.kind ≡ true → judged messages place p ≡ continuation messages p
unfolding judged
judged_fragment messages place p f = rw f refl

judged_whole : (messages : List Unfinished) (place : ℕ) (p : Part) → is_fragment p.header.kind ≡ false → p.header.more ≡ false → judged messages place p ≡ whole_by place p.header p.content
unfolding judged
judged_whole messages place p f m = rw (f, m) refl

fragment_continues : (older : List Part) (p : Part) (answer : Option Framed) → AreTaken older → is_fragment p.header.kind ≡ true → says older p ≡ Ok answer → Continues p (going_on (id_of p) older) answer
fragment_continues older p answer t f e =
    let a = guard_ok (ltb (length p.content) 4) without_id (continuing p (numbered (id_of p) (unfinished older))) answer (sym (judged_fragment (unfinished older) (offset older) p f) ∙ e) in
    continues p (going_on (id_of p) older) answer (ap (continuing p) (sym (joins older t (id_of p))) ∙ a.1)

-- the joined octets, whose fields are read
joined_reads : (more : Bool) (octets : List ℕ) (u : Unfinished) (answer : Option Framed) → joined more octets u ≡ Ok answer
    → cond more (so_far (message_by u.header (u.content ++ octets))) (whole_by u.place u.header (u.content ++ octets)) ≡ Ok answer
joined_reads more octets u answer e =
    let content : List ℕ = u.content ++ octets in
    (guard_ok (ltb size_limit (length content)) (TooLarge (length content)) (cond more (so_far (message_by u.header content)) (whole_by u.place u.header content)) answer e).1

-- ---- the messages that are given

belongs : (p : Part) (older : List Part) (u : Unfinished) (b : Begun (id_of p) older u) → IsPartOf p older b.first b.before b.since
belongs p older u b = record { stand = b.stand; unended = b.unended; numbered = b.numbered_so }

ends_several : (p : Part) (older : List Part) (framed : Framed) → AreTaken older → is_fragment p.header.kind ≡ true → p.header.more ≡ false → says older p ≡ Ok (Some framed) → EndsSeveral p older framed
ends_several p older framed t f m e =
    let c = fragment_continues older p (Some framed) t f e in
    let b = found (id_of p) older c.message c.is in
    let more : Unfinished = with_more (drop 4 p.content) c.message in
    let same : is_fragment_of (id_of b.first) p ≡ true = ap (λ (k : ℕ). is_fragment_of k p) b.numbered_so ∙ fragment_is (id_of p) p (eq-eqb (id_of p) (id_of p) refl) f in
    let now : more ≡ begun_at b.first b.before (p ∷ b.since) = ap (with_more (drop 4 p.content)) b.is ∙ sym (begun_longer b.first p b.before b.since same) in
    let read = joined_reads false (drop 4 p.content) c.message (Some framed) (sym (ap (λ (x : Bool). joined x (drop 4 p.content) c.message) m) ∙ c.says_so) in
    record {
      first = b.first;
      before = b.before;
      between = b.since;
      belongs = belongs p older c.message b;
      reads = subst (λ (u : Unfinished). whole_by u.place u.header u.content ≡ Ok (Some framed)) now read;
    }

ends_next : (p : Part) (older : List Part) (answer : Option Framed) (earlier : List Framed) → AreTaken older → p.header.more ≡ false → says older p ≡ Ok answer → EndsNext p older (earlier ++ given (says older p)) earlier
ends_next p older answer earlier t m e =
    elim (cases_bool (is_fragment p.header.kind)) [
      | inl f ↦
          let c = fragment_continues older p answer t f e in
          let read = joined_reads false (drop 4 p.content) c.message answer (sym (ap (λ (x : Bool). joined x (drop 4 p.content) c.message) m) ∙ c.says_so) in
          let w = said_whole c.message.place c.message.header (start_by c.message.header (c.message.content ++ drop 4 p.content)) (message_by c.message.header (c.message.content ++ drop 4 p.content)) answer read in
          let said : says older p ≡ Ok (Some w.0) = e ∙ ap (λ (x : Option Framed). Ok x) w.1 in
          record {
            framed = w.0;
            ends = inr (f, ends_several p older w.0 t f m said);
            messages_are = ap (λ (j : Judgement). earlier ++ given j) said;
          }
      | inr f ↦
          let read : whole_by (offset older) p.header p.content ≡ Ok answer = sym (judged_whole (unfinished older) (offset older) p f m) ∙ e in
          let w = said_whole (offset older) p.header (start_by p.header p.content) (message_by p.header p.content) answer read in
          let some : Ok answer ≡ Ok (Some w.0) = ap (λ (x : Option Framed). Ok x) w.1 in
          record {
            framed = w.0;
            ends = inl (f, read ∙ some);
            messages_are = ap (λ (j : Judgement). earlier ++ given j) (e ∙ some);
          }
    ]

-- a part with the bit gives none
piece_says_none : (p : Part) (older : List Part) (answer : Option Framed) → AreTaken older → p.header.more ≡ true → says older p ≡ Ok answer → answer ≡ None
piece_says_none p older answer t m e =
    elim (cases_bool (is_fragment p.header.kind)) [
      | inl f ↦
          let c = fragment_continues older p answer t f e in
          let read = joined_reads true (drop 4 p.content) c.message answer (sym (ap (λ (x : Bool). joined x (drop 4 p.content) c.message) m) ∙ c.says_so) in
          said_more (message_by c.message.header (c.message.content ++ drop 4 p.content)) answer read
      | inr f ↦
          let taken : Bool = is_some (numbered (id_of p) (unfinished older)) || nat_le unfinished_limit (length (unfinished older)) in
          let a = guard_ok (ltb (length p.content) 4) without_id (cond taken (Err BadFragment) (so_far (message_by p.header p.content))) answer (sym (judged_opening (unfinished older) (offset older) p f m) ∙ e) in
          let b = guard_ok taken BadFragment (so_far (message_by p.header p.content)) answer a.1 in
          said_more (message_by p.header p.content) answer b.1
    ]

pub all_ends : (parts : List Part) → AreTaken parts → AreEnded parts (messages_of parts)
all_ends [] t = refl
all_ends (p ∷ older) t = (
  messages_of older,
  all_ends older t.2,
  elim (cases_bool p.header.more) [
    | inl m ↦ inl (m, ap (λ (j : Judgement). messages_of older ++ given j) (t.1 ∙ ap (λ (x : Option Framed). Ok x) (piece_says_none p older t.0 t.2 m t.1)) ∙ append-nil (messages_of older))
    | inr m ↦ inr (m, ends_next p older t.0 (messages_of older) t.2 m t.1)
  ],
)

-- ---- a Fragment is a part of one message

both_true : (a l y : Bool) → (a && not (l || y)) ≡ true → (a ≡ true) × ((a && not y) ≡ true)
both_true true true y e = absurd cc
both_true true false y e = (refl, e)
both_true false l y e = absurd cc

-- what is open with a part behind it was open before
open_before : (f q : Part) (c : List Part) → is_open f (q ∷ c) ≡ true → is_open f c ≡ true
open_before f q c e = (both_true (is_first f) (is_last_of (id_of f) q) (list_any (is_last_of (id_of f)) c) e).1

-- and was begun
open_first : (f : Part) (c : List Part) → is_open f c ≡ true → is_first f ≡ true
open_first f c e = (both_true (is_first f) false (list_any (is_last_of (id_of f)) c) e).0

first_is : (f : Part) → is_first f ≡ true → (is_fragment f.header.kind ≡ false) × (f.header.more ≡ true)
first_is f e =
    elim (cases_bool (is_fragment f.header.kind)) [
      | inl k ↦ let h : false ≡ true = sym (first_of_fragment f k) ∙ e in absurd cc
      | inr k ↦ elim (cases_bool f.header.more) [
        | inl m ↦ (k, m)
        | inr m ↦ let h : false ≡ true = sym (first_of_whole f k m) ∙ e in absurd cc
      ]
    ]

-- an open message goes on
goes_on_still : (id : ℕ) (f : Part) (b c : List Part) → is_open f c ≡ true → id_of f ≡ id → (u : Unfinished) × (going_on id (c ++ f ∷ b) ≡ Some u)
goes_on_still id f b [] o n =
    let k = first_is f (open_first f [] o) in
    (begun_by (offset b) f, step_first id f b (eq-eqb (id_of f) id n) k.0 k.1)
goes_on_still id f b (q ∷ c) o n =
    let ps : List Part = c ++ f ∷ b in
    let before = goes_on_still id f b c (open_before f q c o) n in
    elim (cases_bool (id_of q == id)) [
      | inl e ↦ elim (cases_bool (is_fragment q.header.kind)) [
        | inl k ↦ elim (cases_bool q.header.more) [
          | inl m ↦ (with_more (drop 4 q.content) before.0, step_piece id q ps e k m ∙ ap (with_octets (drop 4 q.content)) before.1)
          | inr m ↦ let same : is_fragment_of (id_of f) q ≡ true = ap (λ (x : ℕ). is_fragment_of x q) n ∙ fragment_is id q e k in
              let h : true ≡ false = sym o ∙ open_ended f q c same m in absurd cc
        ]
        | inr k ↦ elim (cases_bool q.header.more) [
          | inl m ↦ (begun_by (offset ps) q, step_first id q ps e k m)
          | inr m ↦ (before.0, step_whole id q ps e k m ∙ before.1)
        ]
      ]
      | inr e ↦ (before.0, step_on id q ps e ∙ before.1)
    ]

-- so no message of its request_id begins
clash : (id : ℕ) (first : Part) (before : List Part) → AreTaken (first ∷ before) → is_first first ≡ true → id_of first ≡ id
    → (f : Part) (b c : List Part) → before ≡ c ++ f ∷ b → is_open f c ≡ true → id_of f ≡ id → ⊥
clash id first before t k n f b c stand o m =
    let was = first_is first k in
    let free : numbered (id_of first) (unfinished before) ≡ None = number_free (unfinished before) (offset before) first t.0 was.0 was.1 t.1 in
    let goes = goes_on_still id f b c o m in
    let some : going_on id before ≡ Some goes.0 = ap (going_on id) stand ∙ goes.1 in
    let none : going_on id before ≡ None = sym (joins before t.2 id) ∙ subst (λ (x : ℕ). numbered x (unfinished before) ≡ None) n free in
    let h : Some goes.0 ≡ None = sym some ∙ none in
    absurd cc

unique : (id : ℕ) (parts between : List Part) (first : Part) (before c : List Part) (f : Part) (b : List Part) → AreTaken parts
    → parts ≡ between ++ first ∷ before → is_open first between ≡ true → id_of first ≡ id
    → parts ≡ c ++ f ∷ b → is_open f c ≡ true → id_of f ≡ id → (f ≡ first) × (b ≡ before) × (c ≡ between)
unique id parts [] first before [] f b t s o n s2 o2 n2 = (cc, cc, refl)
unique id parts [] first before (q ∷ c) f b t s o n s2 o2 n2 =
    let rest : before ≡ c ++ f ∷ b = cc in
    absurd (clash id first before (subst AreTaken s t) (open_first first [] o) n f b c rest (open_before f q c o2) n2)
unique id parts (q ∷ between) first before [] f b t s o n s2 o2 n2 =
    let rest : b ≡ between ++ first ∷ before = cc in
    absurd (clash id f b (subst AreTaken s2 t) (open_first f [] o2) n2 first before between rest (open_before first q between o) n)
unique id parts (q ∷ between) first before (r ∷ c) f b t s o n s2 o2 n2 =
    let taken : AreTaken (q ∷ (between ++ first ∷ before)) = subst AreTaken s t in
    let rest : between ++ first ∷ before ≡ c ++ f ∷ b = cc in
    let same = unique id (between ++ first ∷ before) between first before c f b taken.2 refl (open_before first q between o) n rest (open_before f r c o2) n2 in
    let head : r ≡ q = cc in
    let tail : c ≡ between = same.2 in
    (same.0, same.1, cc)

taken_behind : (newer parts : List Part) → AreTaken (newer ++ parts) → AreTaken parts
taken_behind [] parts t = t
taken_behind (q ∷ newer) parts t = taken_behind newer parts t.2

-- a Fragment that was taken is a part of exactly one message
pub belongs_to_one : (newer older : List Part) (p : Part) → AreTaken (newer ++ p ∷ older) → is_fragment p.header.kind ≡ true
    → (first : Part) × (before : List Part) × (between : List Part) × IsPartOf p older first before between
    × ((f : Part) (b c : List Part) → IsPartOf p older f b c → (f ≡ first) × (b ≡ before) × (c ≡ between))
belongs_to_one newer older p t f =
    let here = taken_behind newer (p ∷ older) t in
    let c = fragment_continues older p here.0 here.2 f here.1 in
    let b = found (id_of p) older c.message c.is in (
      b.first,
      b.before,
      b.since,
      belongs p older c.message b,
      λ other before between h. unique (id_of p) older b.since b.first b.before between other before here.2 b.stand b.unended b.numbered_so h.stand h.unended h.numbered,
    )
