-- What the whole gives where its steps give what they do, and what they give where the whole gives a message.
use Rattle.std.proofs.Common.{◌≡◌, ℕ, ◌+◌, ◌<◌, ◌≤◌, ◌||◌, true, false, ltb, List, ◌∷◌, ◌++◌, length, take, drop, Result, Ok, Err, refl, sym, ap, subst, ◌∙◌, append_assoc, arith}
use Rattle.std.specs.Prelude.{IfOk, IfErr}
use Rattle.std.proofs.lemmas.Bool.{le-ltb, lt-ltb, ltb-false, or_parts}
use Rattle.std.proofs.lemmas.List.{take_at, drop_at, length-append}
use Rattle.cdr_values.specs.Reading.{◌>>=◌}
use Rattle.giop_frames.specs.declared.fault.FrameFault.{FrameFault}
use Rattle.giop_frames.specs.declared.fault.FrameFault.TheVariants as faults
use Rattle.giop_frames.specs.declared.fault.FrameFault.TheVariants.{BadFragment, Short}
use Rattle.giop_frames.specs.declared.header.Header.{Header}
use Rattle.giop_frames.specs.declared.layout.Version.{Version}
use Rattle.giop_frames.specs.declared.message.Message.{Message}
use Rattle.giop_frames.specs.declared.message.Message.TheVariants as messages
use Rattle.giop_frames.specs.Fault.{Fails, Finds}
use Rattle.giop_frames.specs.Header.{magic, version_octets, type_octet, is_fragment, header_at}
use Rattle.giop_frames.specs.Message.{IsMessage, kind_of}
use Rattle.giop_frames.specs.ContentInside.{FieldLaws}
use Rattle.giop_frames.specs.Content.{message_of}
use Rattle.giop_frames.specs.Decode.{decoded}
use Rattle.giop_frames.proofs.Given.{ok_is, bind_ok, guard_ok}
use Rattle.giop_frames.proofs.Headers.{header_found, header_only}
use Rattle.giop_frames.proofs.Exact.{content_found, content_only}

-- the whole is what the content says
pub decoded_content : (versions : List Version) → (octets : List ℕ) (h : Header) → header_at versions octets ≡ Ok h → (h.more || is_fragment h.kind) ≡ false → 12 + h.size ≤ length octets
    → decoded versions octets ≡ (message_of h.version h.order h.kind (take h.size (drop 12 octets)) >>= λ message. Ok (message, 12 + h.size))
unfolding decoded
decoded_content versions octets h e whole long = rw (e, whole, le-ltb (length octets) (12 + h.size) long) refl

-- a header that is refused
pub decoded_headless : (versions : List Version) → (octets : List ℕ) (fault : FrameFault) → header_at versions octets ≡ Err fault → decoded versions octets ≡ Err fault
unfolding decoded
decoded_headless versions octets fault e = rw e refl

-- a part that is not a message
pub decoded_part : (versions : List Version) → (octets : List ℕ) (h : Header) → header_at versions octets ≡ Ok h → (h.more || is_fragment h.kind) ≡ true → decoded versions octets ≡ Err BadFragment
unfolding decoded
decoded_part versions octets h e part = rw (e, part) refl

-- a content that has not come
pub decoded_short : (versions : List Version) → (octets : List ℕ) (h : Header) → header_at versions octets ≡ Ok h → (h.more || is_fragment h.kind) ≡ false → length octets < 12 + h.size → decoded versions octets ≡ Err Short
unfolding decoded
decoded_short versions octets h e whole short = rw (e, whole, lt-ltb (length octets) (12 + h.size) short) refl

-- a fault of the content is the fault of the whole
pub decoded_fault : (versions : List Version) → (octets : List ℕ) (h : Header) (fault : FrameFault) → header_at versions octets ≡ Ok h → (h.more || is_fragment h.kind) ≡ false → 12 + h.size ≤ length octets
    → message_of h.version h.order h.kind (take h.size (drop 12 octets)) ≡ Err fault → decoded versions octets ≡ Err fault
unfolding decoded
decoded_fault versions octets h fault e whole long bad = rw (e, whole, le-ltb (length octets) (12 + h.size) long, bad) refl

-- a message in the content is the message of the whole
pub decoded_message : (versions : List Version) → (octets : List ℕ) (h : Header) (m : Message) → header_at versions octets ≡ Ok h → (h.more || is_fragment h.kind) ≡ false → 12 + h.size ≤ length octets
    → message_of h.version h.order h.kind (take h.size (drop 12 octets)) ≡ Ok m → decoded versions octets ≡ Ok (m, 12 + h.size)
unfolding decoded
decoded_message versions octets h m e whole long good = rw (e, whole, le-ltb (length octets) (12 + h.size) long, good) refl

-- the steps of a whole that gives a message
record Steps (versions : List Version) (octets : List ℕ) (m : Message) (used : ℕ) : Type 0 where
  header : Header
  read : header_at versions octets ≡ Ok header
  whole : (header.more || is_fragment header.kind) ≡ false
  long : 12 + header.size ≤ length octets
  content : message_of header.version header.order header.kind (take header.size (drop 12 octets)) ≡ Ok m
  all : 12 + header.size ≡ used

-- a whole that gives a message has gone through them
steps : (versions : List Version) → (octets : List ℕ) (m : Message) (used : ℕ) → decoded versions octets ≡ Ok (m, used) → Steps versions octets m used
unfolding decoded
steps versions octets m used e =
    let a = bind_ok (header_at versions octets) _ (m, used) e in
    let h = a.0 in
    let b = guard_ok (h.more || is_fragment h.kind) BadFragment _ (m, used) a.2 in
    let c = guard_ok (ltb (length octets) (12 + h.size)) Short _ (m, used) b.1 in
    let d = bind_ok (message_of h.version h.order h.kind (take h.size (drop 12 octets))) _ (m, used) c.1 in
    let same = ok_is {A = Message × ℕ} (d.0, 12 + h.size) (m, used) d.2 in
    record {
      header = h;
      read = a.1;
      whole = b.0;
      long = ltb-false _ _ c.0;
      content = d.1 ∙ ap (λ (x : Message × ℕ). Ok x.0) same;
      all = ap (λ (x : Message × ℕ). x.1) same;
    }

-- where the whole gives a message, the octets that it used are that message
pub is_message : (versions : List Version) → FieldLaws → (octets : List ℕ) (m : Message) (used : ℕ) → decoded versions octets ≡ Ok (m, used) → (used ≤ length octets) × IsMessage versions m (take used octets)
is_message versions laws octets m used e =
    let s = steps versions octets m used e in
    let h = s.header in
    let content = take h.size (drop 12 octets) in
    let c = content_found laws h.version h.order h.kind content m s.content in
    let found = header_found versions octets h s.read s.long in
    let message : IsMessage versions m (take (12 + h.size) octets) = record {
      header = h;
      content = content;
      part = found.1;
      admitted = found.0;
      whole = (or_parts h.more (is_fragment h.kind) s.whole).0;
      kind = c.0;
      is_content = c.1;
    } in
    (omega (arith, s.all, s.long), subst (λ (n : ℕ). IsMessage versions m (take n octets)) s.all message)

-- no message is a fragment
no_fragment : (m : Message) → is_fragment (kind_of m) ≡ false
no_fragment (messages.Request r) = refl
no_fragment (messages.Reply r) = refl
no_fragment (messages.Cancel id) = refl
no_fragment (messages.Locate l) = refl
no_fragment (messages.LocateReply l) = refl
no_fragment messages.Close = refl
no_fragment messages.Error = refl

-- a message is given by the whole, whatever follows it
pub is_decoded : (versions : List Version) → FieldLaws → (m : Message) (octets rest : List ℕ) → IsMessage versions m octets → decoded versions (octets ++ rest) ≡ Ok (m, length octets)
is_decoded versions laws m octets rest is =
    let h = is.header in
    let p = is.part in
    let front : List ℕ = magic ++ (version_octets h.version ++ (p.flags ∷ type_octet h.kind ∷ p.size)) in
    let size : length front ≡ 12 = omega (arith, p.sized.size) in
    let parts : octets ≡ front ++ is.content = p.parts in
    let used : 12 + h.size ≡ length octets = omega (arith, ap length parts, length-append front is.content, size, p.counted) in
    let behind : octets ++ rest ≡ front ++ (is.content ++ rest) = ap (λ (x : List ℕ). x ++ rest) parts ∙ append_assoc front is.content rest in
    let content : take h.size (drop 12 (octets ++ rest)) ≡ is.content = ap (λ (x : List ℕ). take h.size (drop 12 x)) behind ∙ ap (take h.size) (drop_at front (is.content ++ rest) 12 size) ∙ take_at is.content rest h.size p.counted in
    let whole : (h.more || is_fragment h.kind) ≡ false = rw (is.whole, is.kind) (no_fragment m) in
    let long : 12 + h.size ≤ length (octets ++ rest) = omega (arith, used, length-append octets rest) in
    let read : message_of h.version h.order h.kind (take h.size (drop 12 (octets ++ rest))) ≡ Ok m = rw (content, is.kind) (content_only laws h.version h.order m is.content is.is_content) in
    subst (λ (n : ℕ). decoded versions (octets ++ rest) ≡ Ok (m, n)) used (decoded_message versions (octets ++ rest) h m (header_only versions h is.content octets rest is.admitted p) whole long read)

-- ---- from what a call found to what holds of its answer

-- a call used no more octets than there are
pub within_from : (versions : List Version) → {X : Type 0} (laws : FieldLaws) (view : X → Message × ℕ) (octets : List ℕ) (result : Result X FrameFault) → Finds view result (decoded versions octets) → IfOk result (λ x. (view x).1 ≤ length octets)
within_from versions laws view octets (Ok x) given = (is_message versions laws octets (view x).0 (view x).1 given).0
within_from versions laws view octets (Err fault) given = tt

-- the octets that a call used are its message
pub found_from : (versions : List Version) → {X : Type 0} (laws : FieldLaws) (view : X → Message × ℕ) (octets : List ℕ) (result : Result X FrameFault) → Finds view result (decoded versions octets) → IfOk result (λ x. IsMessage versions (view x).0 (take (view x).1 octets))
found_from versions laws view octets (Ok x) given = (is_message versions laws octets (view x).0 (view x).1 given).1
found_from versions laws view octets (Err fault) given = tt

-- only memory fails where reading gives a value
only_memory : {Y : Type 0} (fault : FrameFault) (read : Result Y FrameFault) (y : Y) → read ≡ Ok y → Fails fault read → fault ≡ faults.Memory
only_memory faults.BadMagic read y e h = absurd cc
only_memory faults.BadVersion read y e h = absurd cc
only_memory faults.BadType read y e h = absurd cc
only_memory (faults.TooLarge n) read y e h = absurd cc
only_memory faults.BadFragment read y e h = absurd cc
only_memory (faults.Body place cdr) read y e h = absurd cc
only_memory faults.Short read y e h = absurd cc
only_memory faults.NotWritten read y e h = absurd cc
only_memory faults.Memory read y e h = refl

-- a call finds the message that stands in front, unless memory fails
pub only_from : (versions : List Version) → {X : Type 0} (laws : FieldLaws) (view : X → Message × ℕ) (bytes : List ℕ) (result : Result X FrameFault) → Finds view result (decoded versions bytes) → (m : Message) (octets rest : List ℕ) → IsMessage versions m octets → bytes ≡ octets ++ rest
    → IfOk result (λ x. ((view x).0 ≡ m) × ((view x).1 ≡ length octets)) × IfErr result (λ fault. fault ≡ faults.Memory)
only_from versions laws view bytes (Ok x) given m octets rest is e =
    let same = ok_is (view x) (m, length octets) (sym given ∙ ap (decoded versions) e ∙ is_decoded versions laws m octets rest is) in
    ((ap (λ (p : Message × ℕ). p.0) same, ap (λ (p : Message × ℕ). p.1) same), tt)
only_from versions laws view bytes (Err fault) given m octets rest is e = (tt, only_memory fault (decoded versions bytes) (m, length octets) (ap (decoded versions) e ∙ is_decoded versions laws m octets rest is) given)

-- ---- no message begins another

-- two messages in front of the same octets are one
pub one_message : (versions : List Version) → FieldLaws → (m n : Message) (a b x y : List ℕ) → IsMessage versions m a → IsMessage versions n b → a ++ x ≡ b ++ y → (a ≡ b) × (m ≡ n)
one_message versions laws m n a b x y p q e =
    let same = ok_is {A = Message × ℕ} (m, length a) (n, length b) (sym (is_decoded versions laws m a x p) ∙ ap (decoded versions) e ∙ is_decoded versions laws n b y q) in
    let size : length b ≡ length a = ap (λ (z : Message × ℕ). z.1) (sym same) in
    (sym (take_at a x (length a) refl) ∙ ap (take (length a)) e ∙ take_at b y (length a) size, ap (λ (z : Message × ℕ). z.0) same)
