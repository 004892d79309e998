-- The unfinished message of a request_id is told by the parts of that request_id.
use Rattle.std.proofs.Common.{◌≡◌, ℕ, ◌==◌, ◌≤◌, Bool, true, false, cond, ltb, List, [], ◌∷◌, ◌++◌, length, drop, Option, Some, None, Ok, Err, refl, sym, ap, subst, ◌∙◌, inl, inr}
use Rattle.std.specs.Prelude.{◌||◌, is_some, nat_le, not, if◌then◌else◌}
use Rattle.std.specs.Option.{option_or}
use Rattle.std.proofs.lemmas.List.Folds.{find-append}
use Rattle.std.proofs.lemmas.Bool.{eqb-true, eq-eqb, eqb-false, le-ltb}
use Rattle.giop_streams.specs.declared.framed.Framed.{Framed}
use Rattle.giop_frames.specs.declared.fault.FrameFault.TheVariants.{BadFragment}
use Rattle.giop_frames.specs.Header.{is_fragment}
use Rattle.giop_frames.specs.Content.{message_of}
use Rattle.giop_streams.specs.Stream.{Part, Unfinished, AreTaken, after, begun, continued, continuing, extended, going_on, id_of, judged, numbered, offset, opening, says, so_far, unfinished, with_octets, without, without_id}
use Rattle.giop_streams.specs.Limits.{unfinished_limit}
use Rattle.giop_streams.proofs.Results.{guard_ok}
use Rattle.giop_streams.proofs.Numbered.{cases_bool, extended_here, extended_on, without_here, without_on}

-- ---- tests of numbers

-- what equals a number differs from each that the number differs from
other_number : (a b c : ℕ) → (a == b) ≡ true → (b == c) ≡ false → (a == c) ≡ false
other_number a b c e f = ap (λ (x : ℕ). x == c) (eqb-true a b e) ∙ f

pub other_way : (a b : ℕ) → (a == b) ≡ false → (b == a) ≡ false
other_way a b e = elim (cases_bool (b == a)) [ inl t ↦ absurd (eqb-false a b e (sym (eqb-true b a t))) | inr f ↦ f ]

-- ---- one step of a look-up

pub numbered_here : (id : ℕ) (u : Unfinished) (others : List Unfinished) → (u.id == id) ≡ true → numbered id (u ∷ others) ≡ Some u
numbered_here id u others e = rw e refl

pub numbered_on : (id : ℕ) (u : Unfinished) (others : List Unfinished) → (u.id == id) ≡ false → numbered id (u ∷ others) ≡ numbered id others
numbered_on id u others e = rw e refl

-- ---- a look-up in a list that is changed

-- the message of the number that is given more octets
numbered_extended : (id : ℕ) (octets : List ℕ) (messages : List Unfinished) → numbered id (extended id octets messages) ≡ with_octets octets (numbered id messages)
numbered_extended id octets [] = refl
numbered_extended id octets (u ∷ others) =
    let more : Unfinished = record u { content = u.content ++ octets } in
    elim (cases_bool (u.id == id)) [
      | inl e ↦ ap (numbered id) (extended_here id octets u others e) ∙ numbered_here id more others e ∙ sym (ap (with_octets octets) (numbered_here id u others e))
      | inr e ↦ ap (numbered id) (extended_on id octets u others e) ∙ numbered_on id u (extended id octets others) e ∙ numbered_extended id octets others ∙ sym (ap (with_octets octets) (numbered_on id u others e))
    ]

-- and each other one
extended_apart : (k id : ℕ) (octets : List ℕ) (messages : List Unfinished) → (k == id) ≡ false → numbered id (extended k octets messages) ≡ numbered id messages
extended_apart k id octets [] apart = refl
extended_apart k id octets (u ∷ others) apart =
    let more : Unfinished = record u { content = u.content ++ octets } in
    elim (cases_bool (u.id == k)) [
      | inl e ↦ let f : (u.id == id) ≡ false = other_number u.id k id e apart in ap (numbered id) (extended_here k octets u others e) ∙ numbered_on id more others f ∙ sym (numbered_on id u others f)
      | inr e ↦ ap (numbered id) (extended_on k octets u others e) ∙ ap (λ (x : Option Unfinished). cond (u.id == id) (Some u) x) (extended_apart k id octets others apart)
    ]

-- a message of another number than the one that is removed
without_apart : (k id : ℕ) (messages : List Unfinished) → (k == id) ≡ false → numbered id (without k messages) ≡ numbered id messages
without_apart k id [] apart = refl
without_apart k id (u ∷ others) apart =
    elim (cases_bool (u.id == k)) [
      | inl e ↦ ap (numbered id) (without_here k u others e) ∙ sym (numbered_on id u others (other_number u.id k id e apart))
      | inr e ↦ ap (numbered id) (without_on k u others e) ∙ ap (λ (x : Option Unfinished). cond (u.id == id) (Some u) x) (without_apart k id others apart)
    ]

-- a message behind those that don't have its number
numbered_last : (id : ℕ) (messages : List Unfinished) (u : Unfinished) → numbered id messages ≡ None → numbered id (messages ++ u ∷ []) ≡ numbered id (u ∷ [])
numbered_last id messages u none = find-append (λ x. x.id == id) messages (u ∷ []) ∙ ap (λ (x : Option Unfinished). option_or x (numbered id (u ∷ []))) none

-- and those of other numbers
last_apart : (id : ℕ) (messages : List Unfinished) (u : Unfinished) → (u.id == id) ≡ false → numbered id (messages ++ u ∷ []) ≡ numbered id messages
last_apart id [] u apart = numbered_on id u [] apart
last_apart id (v ∷ others) u apart = ap (λ (x : Option Unfinished). cond (v.id == id) (Some v) x) (last_apart id others u apart)

-- ---- no two unfinished messages have one number

abbrev pub AreApart : List Unfinished → Type 0
AreApart [] = Unit {0}
AreApart (u ∷ others) = (numbered u.id others ≡ None) × AreApart others

extended_still : (id : ℕ) (octets : List ℕ) (messages : List Unfinished) → AreApart messages → AreApart (extended id octets messages)
extended_still id octets [] h = tt
extended_still id octets (u ∷ others) h =
    elim (cases_bool (u.id == id)) [
      | inl e ↦ subst AreApart (sym (extended_here id octets u others e)) h
      | inr e ↦ subst AreApart (sym (extended_on id octets u others e)) (extended_apart id u.id octets others (other_way u.id id e) ∙ h.0, extended_still id octets others h.1)
    ]

without_still : (id : ℕ) (messages : List Unfinished) → AreApart messages → AreApart (without id messages)
without_still id [] h = tt
without_still id (u ∷ others) h =
    elim (cases_bool (u.id == id)) [
      | inl e ↦ subst AreApart (sym (without_here id u others e)) h.1
      | inr e ↦ subst AreApart (sym (without_on id u others e)) (without_apart id u.id others (other_way u.id id e) ∙ h.0, without_still id others h.1)
    ]

-- what a look-up passed over has another number
pub passed_over : (id : ℕ) (u : Unfinished) (others : List Unfinished) → numbered id (u ∷ others) ≡ None → ((u.id == id) ≡ false) × (numbered id others ≡ None)
passed_over id u others none =
    elim (cases_bool (u.id == id)) [
      | inl e ↦ let some : Some u ≡ None = sym (numbered_here id u others e) ∙ none in absurd cc
      | inr e ↦ (e, sym (numbered_on id u others e) ∙ none)
    ]

one_more_still : (messages : List Unfinished) (u : Unfinished) → numbered u.id messages ≡ None → AreApart messages → AreApart (messages ++ u ∷ [])
one_more_still [] u none h = (refl, tt)
one_more_still (v ∷ others) u none h =
    let p = passed_over u.id v others none in
    (last_apart v.id others u (other_way v.id u.id p.0) ∙ h.0, one_more_still others u p.1 h.1)

-- the message of a number is removed, and there is no other one
numbered_without : (id : ℕ) (messages : List Unfinished) → AreApart messages → numbered id (without id messages) ≡ None
numbered_without id [] h = refl
numbered_without id (u ∷ others) h =
    elim (cases_bool (u.id == id)) [
      | inl e ↦ ap (numbered id) (without_here id u others e) ∙ subst (λ (k : ℕ). numbered k others ≡ None) (eqb-true u.id id e) h.0
      | inr e ↦ ap (numbered id) (without_on id u others e) ∙ numbered_on id u (without id others) e ∙ numbered_without id others h.1
    ]

-- ---- a part that is taken

none_or : {X : Type 0} (x : Option X) (b : Bool) → (is_some x || b) ≡ false → x ≡ None
none_or None b e = refl
none_or (Some x) b e = absurd cc

-- a first part that goes on has a number that is free
pub opened_free : (messages : List Unfinished) (p : Part) (answer : Option Framed) → opening messages p ≡ Ok answer → numbered (id_of p) messages ≡ None
opened_free messages p answer e =
    let taken : Bool = is_some (numbered (id_of p) messages) || nat_le unfinished_limit (length messages) in
    let a = guard_ok (ltb (length p.content) 4) without_id (cond taken (Err BadFragment) (so_far (message_of p.header.version p.header.order p.header.kind p.content))) answer e in
    let b = guard_ok taken BadFragment (so_far (message_of p.header.version p.header.order p.header.kind p.content)) answer a.1 in
    none_or (numbered (id_of p) messages) (nat_le unfinished_limit (length messages)) b.0

pub judged_opening : (messages : List Unfinished) (place : ℕ) (p : Part) → is_fragment p.header.kind ≡ false → p.header.more ≡ true → judged messages place p ≡ opening messages p
unfolding judged
judged_opening messages place p f m = rw (f, m) refl

pub number_free : (messages : List Unfinished) (place : ℕ) (p : Part) (answer : Option Framed) → is_fragment p.header.kind ≡ false → p.header.more ≡ true → judged messages place p ≡ Ok answer → numbered (id_of p) messages ≡ None
number_free messages place p answer f m e = opened_free messages p answer (sym (judged_opening messages place p f m) ∙ e)

-- the message that a part begins
abbrev pub first : ℕ → Part → Unfinished
first place p = record { id = id_of p; place = place; header = p.header; content = p.content }

-- ---- what stands after a part

pub after_piece : (place : ℕ) (p : Part) (messages : List Unfinished) → is_fragment p.header.kind ≡ true → p.header.more ≡ true → after place p messages ≡ extended (id_of p) (drop 4 p.content) messages
after_piece place p messages f m = rw (f, m) refl

pub after_end : (place : ℕ) (p : Part) (messages : List Unfinished) → is_fragment p.header.kind ≡ true → p.header.more ≡ false → after place p messages ≡ without (id_of p) messages
after_end place p messages f m = rw (f, m) refl

pub after_first : (place : ℕ) (p : Part) (messages : List Unfinished) → is_fragment p.header.kind ≡ false → p.header.more ≡ true → after place p messages ≡ messages ++ first place p ∷ []
after_first place p messages f m = rw (f, m) refl

pub after_whole : (place : ℕ) (p : Part) (messages : List Unfinished) → is_fragment p.header.kind ≡ false → p.header.more ≡ false → after place p messages ≡ messages
after_whole place p messages f m = rw (f, m) refl

-- one number has one message still
apart_after : (messages : List Unfinished) (place : ℕ) (p : Part) (answer : Option Framed) → judged messages place p ≡ Ok answer → AreApart messages → AreApart (after place p messages)
apart_after messages place p answer said h =
    elim (cases_bool (is_fragment p.header.kind)) [
      | inl f ↦ elim (cases_bool p.header.more) [
        | inl m ↦ subst AreApart (sym (after_piece place p messages f m)) (extended_still (id_of p) (drop 4 p.content) messages h)
        | inr m ↦ subst AreApart (sym (after_end place p messages f m)) (without_still (id_of p) messages h)
      ]
      | inr f ↦ elim (cases_bool p.header.more) [
        | inl m ↦ subst AreApart (sym (after_first place p messages f m)) (one_more_still messages (first place p) (number_free messages place p answer f m said) h)
        | inr m ↦ subst AreApart (sym (after_whole place p messages f m)) h
      ]
    ]

pub all_apart : (parts : List Part) → AreTaken parts → AreApart (unfinished parts)
all_apart [] t = tt
all_apart (p ∷ older) t = apart_after (unfinished older) (offset older) p t.0 t.1 (all_apart older t.2)

-- a part of another number
found_apart : (messages : List Unfinished) (place : ℕ) (p : Part) (id : ℕ) → (id_of p == id) ≡ false → numbered id (after place p messages) ≡ numbered id messages
found_apart messages place p id e =
    elim (cases_bool (is_fragment p.header.kind)) [
      | inl f ↦ elim (cases_bool p.header.more) [
        | inl m ↦ ap (numbered id) (after_piece place p messages f m) ∙ extended_apart (id_of p) id (drop 4 p.content) messages e
        | inr m ↦ ap (numbered id) (after_end place p messages f m) ∙ without_apart (id_of p) id messages e
      ]
      | inr f ↦ elim (cases_bool p.header.more) [
        | inl m ↦ ap (numbered id) (after_first place p messages f m) ∙ last_apart id messages (first place p) e
        | inr m ↦ ap (numbered id) (after_whole place p messages f m)
      ]
    ]

-- what a part of the number makes of its message
abbrev changed : ℕ → Part → Option Unfinished → Option Unfinished
changed place p before = if is_fragment p.header.kind then continued p before else begun place p before

changed_piece : (place : ℕ) (p : Part) (before : Option Unfinished) → is_fragment p.header.kind ≡ true → p.header.more ≡ true → changed place p before ≡ with_octets (drop 4 p.content) before
changed_piece place p before f m = rw (f, m) refl

changed_end : (place : ℕ) (p : Part) (before : Option Unfinished) → is_fragment p.header.kind ≡ true → p.header.more ≡ false → changed place p before ≡ None
changed_end place p before f m = rw (f, m) refl

changed_first : (place : ℕ) (p : Part) (before : Option Unfinished) → is_fragment p.header.kind ≡ false → p.header.more ≡ true → changed place p before ≡ Some (first place p)
changed_first place p before f m = rw (f, m) refl

changed_whole : (place : ℕ) (p : Part) (before : Option Unfinished) → is_fragment p.header.kind ≡ false → p.header.more ≡ false → changed place p before ≡ before
changed_whole place p before f m = rw (f, m) refl

found_same : (messages : List Unfinished) (place : ℕ) (p : Part) (answer : Option Framed) → judged messages place p ≡ Ok answer → AreApart messages
    → numbered (id_of p) (after place p messages) ≡ changed place p (numbered (id_of p) messages)
found_same messages place p answer said h =
    let id : ℕ = id_of p in
    let before : Option Unfinished = numbered id messages in
    elim (cases_bool (is_fragment p.header.kind)) [
      | inl f ↦ elim (cases_bool p.header.more) [
        | inl m ↦ ap (numbered id) (after_piece place p messages f m) ∙ numbered_extended id (drop 4 p.content) messages ∙ sym (changed_piece place p before f m)
        | inr m ↦ ap (numbered id) (after_end place p messages f m) ∙ numbered_without id messages h ∙ sym (changed_end place p before f m)
      ]
      | inr f ↦ elim (cases_bool p.header.more) [
        | inl m ↦ ap (numbered id) (after_first place p messages f m) ∙ numbered_last id messages (first place p) (number_free messages place p answer f m said) ∙ numbered_here id (first place p) [] (eq-eqb id id refl) ∙ sym (changed_first place p before f m)
        | inr m ↦ ap (numbered id) (after_whole place p messages f m) ∙ sym (changed_whole place p before f m)
      ]
    ]

-- one more part
abbrev stepped : ℕ → ℕ → Part → Option Unfinished → Option Unfinished
stepped id place p before = if not (id_of p == id) then before else changed place p before

found_after : (messages : List Unfinished) (place : ℕ) (p : Part) (answer : Option Framed) (id : ℕ) → judged messages place p ≡ Ok answer → AreApart messages
    → numbered id (after place p messages) ≡ stepped id place p (numbered id messages)
found_after messages place p answer id said h =
    elim (cases_bool (id_of p == id)) [
      | inl e ↦ subst (λ (k : ℕ). numbered k (after place p messages) ≡ changed place p (numbered k messages)) (eqb-true (id_of p) id e) (found_same messages place p answer said h) ∙ sym (ap (λ (b : Bool). cond (not b) (numbered id messages) (changed place p (numbered id messages))) e)
      | inr e ↦ found_apart messages place p id e ∙ sym (ap (λ (b : Bool). cond (not b) (numbered id messages) (changed place p (numbered id messages))) e)
    ]

-- a look-up among what is unfinished finds what goes on
pub joins : (parts : List Part) → AreTaken parts → (id : ℕ) → numbered id (unfinished parts) ≡ going_on id parts
joins [] t id = refl
joins (p ∷ older) t id = found_after (unfinished older) (offset older) p t.0 id t.1 (all_apart older t.2) ∙ ap (stepped id (offset older) p) (joins older t.2 id)

-- so a Fragment goes on with the message that the parts of its request_id tell
pub fragment_goes_on : (parts : List Part) → AreTaken parts → (p : Part) → is_fragment p.header.kind ≡ true → 4 ≤ length p.content → says parts p ≡ continuing p (going_on (id_of p) parts)
unfolding judged
fragment_goes_on parts t p fragment long = rw (fragment, le-ltb (length p.content) 4 long, joins parts t (id_of p)) refl
