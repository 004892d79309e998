-- What a part says, case by case.
use Rattle.std.proofs.Common.{◌≡◌, ℕ, ◌<◌, ◌≤◌, arith, Bool, true, false, cond, ltb, List, [], ◌∷◌, ◌++◌, length, length-append, get_or, drop, set, Some, None, Result, Ok, Err, refl, sym, ap, subst, ◌∙◌}
use Rattle.std.proofs.lemmas.Bool.{lt-ltb, le-ltb, lt-leb, ltb-true}
use Rattle.cdr_values.specs.declared.order.Order.{Order}
use Rattle.cdr_values.specs.declared.fault.CdrFault.{CdrFault}
use Rattle.cdr_values.specs.declared.fault.CdrFault.TheVariants as cdr
use Rattle.cdr_values.specs.Value.{number_in}
use Rattle.cdr_values.specs.Reading.{Reading, ◌>>=◌, number_at, sized_at}
use Rattle.giop_frames.specs.Fault.{Fails, fault_of}
use Rattle.std.specs.Prelude.{remove}
use Rattle.std.specs.List.{AllByRecursion}
use Rattle.giop_frames.specs.declared.fault.FrameFault.{FrameFault}
use Rattle.giop_frames.specs.declared.fault.FrameFault.TheVariants.{BadFragment, Memory}
use Rattle.giop_frames.specs.Header.{is_fragment}
use Rattle.giop_frames.specs.Content.{GivesKept, message_of, message_by}
use Rattle.giop_streams.specs.Stream.{Part, Unfinished, after, begun_by, id_of, joined, judged, numbered, opening, so_far, whole_by, with_begun, without_id}
use Rattle.giop_streams.specs.Held.{AreShort, MayGoOn, MayWantMemory}
use Rattle.giop_streams.specs.HeldInside.{Judges}
use Rattle.giop_streams.specs.StreamInside.{IsAt}
use Rattle.giop_frames.specs.Limits.{size_limit}
use Rattle.giop_streams.specs.Limits.{unfinished_limit}
use Rattle.giop_streams.proofs.Results.{fails_on}
use Rattle.giop_streams.proofs.Numbered.{numbered_at, extended_at, without_at}

abbrev failing : {X E : Type 0} → E → Result X E
failing e = Err e

err_is : {X E : Type 0} {x y : E} → failing {X = X} x ≡ failing y → x ≡ y
err_is e = cc

-- ---- a first part that goes on

pub opening_short : (messages : List Unfinished) (p : Part) → length p.content < 4 → opening messages p ≡ Err without_id
opening_short messages p h = rw (lt-ltb (length p.content) 4 h) refl

pub opening_taken : (messages : List Unfinished) (p : Part) (u : Unfinished) → 4 ≤ length p.content → numbered (id_of p) messages ≡ Some u → opening messages p ≡ Err BadFragment
opening_taken messages p u long e = rw (le-ltb (length p.content) 4 long, e) refl

-- the same, by the message's place in the list
pub opening_at : (messages : List Unfinished) (p : Part) (i : ℕ) → 4 ≤ length p.content → IsAt (id_of p) messages i → opening messages p ≡ Err BadFragment
opening_at messages p i long at = opening_taken messages p _ long (numbered_at (id_of p) messages i (record { id = 0; place = 0; header = p.header; content = [] }) at)

pub opening_free : (messages : List Unfinished) (p : Part) → 4 ≤ length p.content → numbered (id_of p) messages ≡ None → length messages < unfinished_limit → opening messages p ≡ so_far (message_of p.header.version p.header.order p.header.kind p.content)
opening_free messages p long e room = rw (le-ltb (length p.content) 4 long, e, lt-leb unfinished_limit (length messages) room) refl

-- ---- a Fragment

pub fragment_short : (messages : List Unfinished) (place : ℕ) (p : Part) → is_fragment p.header.kind ≡ true → length p.content < 4 → judged messages place p ≡ Err without_id
unfolding judged
fragment_short messages place p f h = rw (f, lt-ltb (length p.content) 4 h) refl

pub fragment_alone : (messages : List Unfinished) (place : ℕ) (p : Part) → is_fragment p.header.kind ≡ true → 4 ≤ length p.content → numbered (id_of p) messages ≡ None → judged messages place p ≡ Err BadFragment
unfolding judged
fragment_alone messages place p f long e = rw (f, le-ltb (length p.content) 4 long, e) refl

pub fragment_joins : (messages : List Unfinished) (place : ℕ) (p : Part) (i : ℕ) (d : Unfinished) → is_fragment p.header.kind ≡ true → 4 ≤ length p.content → IsAt (id_of p) messages i
    → judged messages place p ≡ joined p.header.more (drop 4 p.content) (get_or messages i d)
unfolding judged
fragment_joins messages place p i d f long at = rw (f, le-ltb (length p.content) 4 long, numbered_at (id_of p) messages i d at) refl

-- the same, by what the code has at hand: the message at the index, and the octets behind the number
pub fragment_says : (messages : List Unfinished) (place : ℕ) (p : Part) (i : ℕ) (first : Unfinished) (octets : List ℕ) (more : Bool) → is_fragment p.header.kind ≡ true → 4 ≤ length p.content → IsAt (id_of p) messages i
    → first ≡ get_or messages i first → octets ≡ drop 4 p.content → p.header.more ≡ more → judged messages place p ≡ joined more octets first
fragment_says messages place p i first octets more f long at is behind m =
    fragment_joins messages place p i first f long at ∙ ap (joined p.header.more (drop 4 p.content)) (sym is) ∙ ap (λ (o : List ℕ). joined p.header.more o first) (sym behind) ∙ ap (λ (b : Bool). joined b octets first) m

pub after_more : (messages : List Unfinished) (place : ℕ) (p : Part) (i : ℕ) (d : Unfinished) → is_fragment p.header.kind ≡ true → p.header.more ≡ true → IsAt (id_of p) messages i
    → after place p messages ≡ set messages i (record (get_or messages i d) { content = (get_or messages i d).content ++ drop 4 p.content })
after_more messages place p i d f m at = rw (f, m) (extended_at (id_of p) (drop 4 p.content) messages i d at)

pub after_last : (messages : List Unfinished) (place : ℕ) (p : Part) (i : ℕ) → is_fragment p.header.kind ≡ true → p.header.more ≡ false → IsAt (id_of p) messages i → after place p messages ≡ remove messages i
after_last messages place p i f m at = rw (f, m) (without_at (id_of p) messages i at)

-- ---- the request_id

short_of : (b : Bool) (fault : CdrFault) (x : List ℕ × Reading) (f : List ℕ × Reading → ℕ × Reading) → (cond b (Err (cdr.Short 12)) (Ok x) >>= λ y. Ok (f y)) ≡ Err fault → (b ≡ true) × (fault_of fault ≡ without_id)
short_of true fault x f e = (refl, ap fault_of (err_is (sym e)))
short_of false fault x f e = absurd cc

-- too few octets are the only fault
pub id_fault : (r : Reading) (order : Order) (content : List ℕ) (fault : CdrFault) → r ≡ record { order = order; place = 12; rest = content } → number_at 4 r ≡ Err fault → (fault_of fault ≡ without_id) × (length content < 4)
unfolding number_at sized_at
id_fault r order content fault is e =
    let s = short_of (ltb (length content) 4) fault _ (λ octets. (number_in order 4 octets.0, octets.1)) (ap (number_at 4) (sym is) ∙ e) in
    (s.1, ltb-true _ _ s.0)

-- ---- a part that is no Fragment

pub judged_first : (messages : List Unfinished) (place : ℕ) (p : Part) → is_fragment p.header.kind ≡ false → p.header.more ≡ true → judged messages place p ≡ opening messages p
unfolding judged
judged_first messages place p f m = rw (f, m) refl

pub judged_whole : (messages : List Unfinished) (place : ℕ) (p : Part) → is_fragment p.header.kind ≡ false → p.header.more ≡ false → judged messages place p ≡ whole_by place p.header p.content
unfolding judged
judged_whole messages place p f m = rw (f, m) refl

pub after_first : (messages : List Unfinished) (place : ℕ) (p : Part) → is_fragment p.header.kind ≡ false → p.header.more ≡ true → after place p messages ≡ with_begun place p messages
after_first messages place p f m = rw (f, m) refl

pub after_whole : (messages : List Unfinished) (place : ℕ) (p : Part) → is_fragment p.header.kind ≡ false → p.header.more ≡ false → after place p messages ≡ messages
after_whole messages place p f m = rw (f, m) refl

abbrev AreWithin : List Unfinished → Type 0
AreWithin messages = AllByRecursion (λ u. length u.content ≤ size_limit) messages

all_within : (messages : List Unfinished) (u : Unfinished) → AreWithin messages → length u.content ≤ size_limit → AreWithin (messages ++ u ∷ [])
all_within [] u before one = (one, tt)
all_within (x ∷ xs) u before one = (before.0, all_within xs u before.1 one)

-- one more message is begun, where there is room
pub short_begun : (messages : List Unfinished) (place : ℕ) (p : Part) → AreShort messages → length messages < unfinished_limit → length p.content ≤ size_limit → AreShort (with_begun place p messages)
short_begun messages place p short room few = record {
  few = omega (arith, room, length-append messages (begun_by place p ∷ []));
  short = all_within messages (begun_by place p) short.short few;
}

-- ---- where memory may be wanted

pub wants_whole : (messages : List Unfinished) (p : Part) → is_fragment p.header.kind ≡ false → p.header.more ≡ false → GivesKept (message_by p.header p.content) → MayWantMemory messages p
wants_whole messages p other last sound = record {
  whole = λ f m. sound;
  room = λ f m. let both : true ≡ false = sym m ∙ last in absurd cc;
  free = λ f m. let both : true ≡ false = sym m ∙ last in absurd cc;
  sound = λ f m. let both : true ≡ false = sym m ∙ last in absurd cc;
  goes_on = λ f. let both : true ≡ false = sym f ∙ other in absurd cc;
}

pub wants_first : (messages : List Unfinished) (p : Part) → is_fragment p.header.kind ≡ false → p.header.more ≡ true → (numbered (id_of p) messages ≡ None) × (length messages < unfinished_limit) × (so_far (message_by p.header p.content) ≡ Ok None) → MayWantMemory messages p
wants_first messages p other more may = record {
  whole = λ f m. let both : true ≡ false = sym more ∙ m in absurd cc;
  room = λ f m. may.1;
  free = λ f m. may.0;
  sound = λ f m. may.2;
  goes_on = λ f. let both : true ≡ false = sym f ∙ other in absurd cc;
}

pub wants_fragment : (messages : List Unfinished) (p : Part) (i : ℕ) (first : Unfinished) (octets : List ℕ) (more : Bool) → is_fragment p.header.kind ≡ true → IsAt (id_of p) messages i → first ≡ get_or messages i first → octets ≡ drop 4 p.content → p.header.more ≡ more
    → MayGoOn more octets first → MayWantMemory messages p
wants_fragment messages p i first octets more fragment at is behind m may =
    let found : numbered (id_of p) messages ≡ Some first = numbered_at (id_of p) messages i first at ∙ ap (λ (u : Unfinished). Some u) (sym is) in
    record {
      whole = λ f m. let both : true ≡ false = sym fragment ∙ f in absurd cc;
      room = λ f m. let both : true ≡ false = sym fragment ∙ f in absurd cc;
      free = λ f m. let both : true ≡ false = sym fragment ∙ f in absurd cc;
      sound = λ f m. let both : true ≡ false = sym fragment ∙ f in absurd cc;
      goes_on = λ f. rw (found, m, ← behind) may;
    }

-- a refusal of a fragment is that of the message which goes on
pub fragment_fails : (messages : List Unfinished) (p : Part) (i : ℕ) (first : Unfinished) (octets : List ℕ) (more : Bool) (fault : FrameFault) (new : List Unfinished) → is_fragment p.header.kind ≡ true → 4 ≤ length p.content → IsAt (id_of p) messages i
    → first ≡ get_or messages i first → octets ≡ drop 4 p.content → p.header.more ≡ more → Fails fault (joined more octets first) → (fault ≡ Memory → MayGoOn more octets first) → new ≡ messages → AreShort messages
    → (place : ℕ) → Judges place p (Err fault) messages new
fragment_fails messages p i first octets more fault new fragment long at is behind m fails fits same short place = record {
  says = tt;
  after = tt;
  refused = fails_on fault (joined more octets first) (judged messages place p) (λ e. fragment_says messages place p i first octets more fragment long at is behind m ∙ e) fails;
  memory = λ e. wants_fragment messages p i first octets more fragment at is behind m (fits e);
  err = same;
  short = subst AreShort (sym same) short;
}
