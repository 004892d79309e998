-- What a stream holds back, as its parts come.
use Rattle.std.proofs.Common.{Some, ◌≡◌, ℕ, ◌+◌, ◌-◌, ◌^◌, ◌<◌, ◌≤◌, min, true, cond, ltb, List, ◌∷◌, ◌++◌, length, take, drop, Option, None, Result, Ok, Err, refl, sym, ap, subst, ◌∙◌, ◌⊎◌, inl, inr, append_assoc, arith}
use Rattle.std.specs.Prelude.{◌≢◌, not}
use Rattle.std.proofs.lemmas.Bool.{ltb-false, not-false}
use Rattle.std.proofs.lemmas.List.{append-nil, length-append, take-append-drop}
use Rattle.giop_frames.specs.declared.fault.FrameFault.{FrameFault}
use Rattle.giop_frames.specs.declared.fault.FrameFault.TheVariants as faults
use Rattle.giop_streams.specs.declared.framed.Framed.{Framed}
use Rattle.giop_frames.specs.declared.header.Header.{Header}
use Rattle.giop_frames.specs.declared.layout.Version.{Version}
use Rattle.giop_frames.specs.Header.{header_at, magic, type_octet, version_octets}
use Rattle.giop_streams.specs.Stream.{Part, Unfinished, IsStreamPart, IsRefused, IsStream, Refuses, after, given, judged, may_be_part, part_at, part_header_at, says}
use Rattle.giop_streams.specs.StreamInside.{IsInFront}
use Rattle.giop_frames.specs.Fault.{Fails}
use Rattle.giop_frames.specs.Laws.{HeaderLaws}
use Rattle.giop_streams.specs.Held.{Held, Holds, MayWantMemory, WantsMemory}
use Rattle.giop_streams.specs.HeldInside.{RefusesHeld, Takes, Took, remembering}
use Rattle.giop_streams.proofs.Results.{bind_ok, err_is, guard_ok, ok_is}

-- the part that stands in front, and its octets
pub record Front (versions : List Version) (p : Part) (octets rest : List ℕ) : Type 0 where
  pub front : List ℕ
  pub parts : octets ≡ front ++ rest
  pub is_part : IsStreamPart versions p front

-- what reading finds is a part
pub part_found : HeaderLaws → (versions : List Version) → (octets : List ℕ) (p : Part) (rest : List ℕ) → part_at versions octets ≡ Ok (p, rest) → Front versions p octets rest
unfolding part_at part_header_at
part_found laws versions octets p rest e =
    let a = bind_ok (part_header_at versions octets) (λ h. cond (ltb (length octets) (12 + h.size)) (Err faults.Short) (Ok (record { header = h; content = take h.size (drop 12 octets) }, drop (12 + h.size) octets))) (p, rest) e in
    let h : Header = a.0 in
    let b = bind_ok (header_at versions octets) (λ h. cond (not (may_be_part h)) (Err faults.BadFragment) (Ok h)) h a.1 in
    let c = guard_ok (not (may_be_part b.0)) faults.BadFragment (Ok b.0) h b.2 in
    let same : b.0 ≡ h = ok_is b.0 h c.1 in
    let d = guard_ok (ltb (length octets) (12 + h.size)) faults.Short (Ok (record { header = h; content = take h.size (drop 12 octets) }, drop (12 + h.size) octets)) (p, rest) a.2 in
    let front : Part × List ℕ = (record { header = h; content = take h.size (drop 12 octets) }, drop (12 + h.size) octets) in
    let is : front ≡ (p, rest) = ok_is front (p, rest) d.1 in
    let long : 12 + h.size ≤ length octets = ltb-false _ _ d.0 in
    let header : header_at versions octets ≡ Ok h = b.1 ∙ ap (λ (x : Header). Ok x) same in
    let may : may_be_part h ≡ true = not-false _ (ap (λ (x : Header). not (may_be_part x)) (sym same) ∙ c.0) in
    let found = laws.found versions octets h header long in
    let made : Front versions front.0 octets front.1 = record {
      front = take (12 + h.size) octets;
      parts = sym (take-append-drop (12 + h.size) octets);
      is_part = record { part = found.1; admitted = found.0; may_be = may };
    } in
    subst (λ (x : Part × List ℕ). Front versions x.0 octets x.1) {x = front} {y = (p, rest)} is made

-- the octets that are held stand behind versions that the stream admits
held_at : (versions : List Version) (octets : List ℕ) (messages : List Framed) (old : Held) → Holds versions octets messages old → part_at versions old.rest ≡ part_at old.versions old.rest
held_at versions octets messages old h = ap (λ (vs : List Version). part_at vs old.rest) (sym h.versions_are)

says_is : (versions : List Version) → (octets : List ℕ) (messages : List Framed) (old : Held) (p : Part) (h : Holds versions octets messages old) → says h.parts p ≡ judged old.unfinished old.place p
says_is versions octets messages old p h = rw (h.unfinished_are, h.place_is) refl

-- one more part
pub holds_part : HeaderLaws → (versions : List Version) → (octets : List ℕ) (messages : List Framed) (old new : Held) (answer : Option Framed) → Took old answer new → old.refused ≡ None → Holds versions octets messages old → Holds versions octets (messages ++ given (Ok answer)) new
holds_part laws versions octets messages old new answer t none h =
    let f = part_found laws versions old.rest t.part new.rest (held_at versions octets messages old h ∙ t.stands) in
    let said : says h.parts t.part ≡ Ok answer = says_is versions octets messages old t.part h ∙ t.says in
    record {
      parts = t.part ∷ h.parts;
      versions_are = t.versions_are ∙ h.versions_are;
      splits = record {
        front = h.splits.front ++ f.front;
        whole = h.splits.whole ∙ ap (λ (x : List ℕ). h.splits.front ++ x) f.parts ∙ sym (append_assoc h.splits.front f.front new.rest);
        are_parts = (h.splits.front, f.front, refl, f.is_part, h.splits.are_parts);
        taken = (answer, said, h.splits.taken);
        messages_are = rw (said, h.splits.messages_are) refl;
      };
      unfinished_are = t.unfinished_are ∙ rw (h.unfinished_are, h.place_is) refl;
      place_is = t.place_is ∙ rw h.place_is refl;
      refused = rw (t.refused, none) tt;
    }

-- a part that ends no message
pub holds_piece : HeaderLaws → (versions : List Version) → (octets : List ℕ) (messages : List Framed) (old new : Held) → Took old None new → old.refused ≡ None → Holds versions octets messages old → Holds versions octets messages new
holds_piece laws versions octets messages old new t none h = subst (λ (ms : List Framed). Holds versions octets ms new) (append-nil messages) (holds_part laws versions octets messages old new None t none h)

-- no whole part is left
pub holds_stream : (versions : List Version) → (octets : List ℕ) (messages : List Framed) (old : Held) → part_at old.versions old.rest ≡ Err faults.Short → Holds versions octets messages old → IsStream versions messages old.rest octets
holds_stream versions octets messages old e h = record { parts = h.parts; splits = h.splits; partial = held_at versions octets messages old h ∙ e }

-- a part that is refused, by what is held and by the parts so far
pub refuses_parts : (versions : List Version) → (octets : List ℕ) (messages : List Framed) (old : Held) (fault : FrameFault) (h : Holds versions octets messages old) → RefusesHeld old fault → Refuses versions h.parts old.rest fault
refuses_parts versions octets messages old fault h (inl by_octets) = inl (held_at versions octets messages old h ∙ by_octets.0, by_octets.1)
refuses_parts versions octets messages old fault h (inr by_parts) = inr (by_parts.0, by_parts.1, held_at versions octets messages old h ∙ by_parts.2, says_is versions octets messages old by_parts.0 h ∙ by_parts.3)

pub holds_refused : (versions : List Version) → (octets : List ℕ) (messages : List Framed) (old : Held) (fault : FrameFault) → RefusesHeld old fault → Holds versions octets messages old → IsRefused versions messages old.place fault octets
holds_refused versions octets messages old fault r h = record { parts = h.parts; rest = old.rest; splits = h.splits; place_is = h.place_is; refused = refuses_parts versions octets messages old fault h r }

-- a stream takes the part in front of what it holds
pub took : (versions : List Version) (messages : List Unfinished) (place : ℕ) (rest : List ℕ) (looked : ℕ) (refused : Option FrameFault) (kept memory spare : ℕ) (header : Header) (content : List ℕ) (answer : Option Framed) (new : Held) (old : Held)
    → record { versions = versions; unfinished = messages; place = place; rest = rest; looked = looked; refused = refused; kept = kept; memory = memory; spare = spare } ≡ old → IsInFront versions header rest → content ≡ take header.size (drop 12 rest)
    → judged messages place (record { header = header; content = content }) ≡ Ok answer → new.unfinished ≡ after place (record { header = header; content = content }) messages
    → new.place ≡ min (place + (12 + header.size)) (2 ^ 64 - 1) → new.rest ≡ drop (12 + header.size) rest → new.refused ≡ refused → new.versions ≡ versions → new.kept ≤ kept → new.memory ≡ memory → Took old answer new
took versions messages place rest looked refused kept memory spare header content answer new old view front is said messages_are place_is rest_is refused_is versions_is kept_is memory_is =
    let part : Part = record { header = header; content = content } in
    let stands : part_at versions rest ≡ Ok (part, new.rest) = front.part ∙ ap (λ (x : List ℕ). Ok (record { header = header; content = x }, drop (12 + header.size) rest)) (sym is) ∙ ap (λ (x : List ℕ). Ok (part, x)) (sym rest_is) in
    let held : Held = record { versions = versions; unfinished = messages; place = place; rest = rest; looked = looked; refused = refused; kept = kept; memory = memory; spare = spare } in
    let made : Took held answer new = record { part = part; stands = stands; says = said; unfinished_are = messages_are; place_is = place_is; refused = refused_is; versions_are = versions_is; kept = kept_is; memory = memory_is } in
    subst (λ (h : Held). Took h answer new) view made

-- or refuses it, or wants memory for it; its header was looked at
refuses_part : (old : Held) (n : ℕ) (p : Part) (behind : List ℕ) (fault : FrameFault) → part_at old.versions old.rest ≡ Ok (p, behind) → Fails fault (judged old.unfinished old.place p) → (fault ≡ faults.Memory → MayWantMemory old.unfinished p) → Takes old (Err fault) (record old { looked = n })
refuses_part old n p behind faults.BadMagic part fails wants = ((n, refl), inr (p, behind, part, fails))
refuses_part old n p behind faults.BadVersion part fails wants = ((n, refl), inr (p, behind, part, fails))
refuses_part old n p behind faults.BadType part fails wants = ((n, refl), inr (p, behind, part, fails))
refuses_part old n p behind (faults.TooLarge size) part fails wants = ((n, refl), inr (p, behind, part, fails))
refuses_part old n p behind faults.BadFragment part fails wants = ((n, refl), inr (p, behind, part, fails))
refuses_part old n p behind (faults.Body at cdr) part fails wants = ((n, refl), inr (p, behind, part, fails))
refuses_part old n p behind faults.Short part fails wants = ((n, refl), inr (p, behind, part, fails))
refuses_part old n p behind faults.NotWritten part fails wants = ((n, refl), inr (p, behind, part, fails))
refuses_part old n p behind faults.Memory part fails wants = ((n, refl), (p, behind, part, wants refl))

pub refused_part : (versions : List Version) (messages : List Unfinished) (place : ℕ) (rest : List ℕ) (looked : ℕ) (refused : Option FrameFault) (kept memory spare : ℕ) (header : Header) (content : List ℕ) (fault : FrameFault) (now : ℕ) (after : List Unfinished) (old : Held)
    → record { versions = versions; unfinished = messages; place = place; rest = rest; looked = looked; refused = refused; kept = kept; memory = memory; spare = spare } ≡ old → IsInFront versions header rest → content ≡ take header.size (drop 12 rest)
    → Fails fault (judged messages place (record { header = header; content = content })) → (fault ≡ faults.Memory → MayWantMemory messages (record { header = header; content = content })) → after ≡ messages → Takes old (Err fault) (record { versions = versions; unfinished = after; place = place; rest = rest; looked = now; refused = refused; kept = kept; memory = memory; spare = spare })
refused_part versions messages place rest looked refused kept memory spare header content fault now after old view front is fails wants same =
    let part : Part = record { header = header; content = content } in
    let behind : List ℕ = drop (12 + header.size) rest in
    let stands : part_at versions rest ≡ Ok (part, behind) = front.part ∙ ap (λ (x : List ℕ). Ok (record { header = header; content = x }, behind)) (sym is) in
    let held : ℕ → List Unfinished → Held = λ n unfinished. record { versions = versions; unfinished = unfinished; place = place; rest = rest; looked = n; refused = refused; kept = kept; memory = memory; spare = spare } in
    let made : Takes (held looked messages) (Err fault) (held now messages) = refuses_part (held looked messages) now part behind fault stands fails wants in
    subst (λ (h : Held). Takes h (Err fault) (held now after)) view (subst (λ (m : List Unfinished). Takes (held looked messages) (Err fault) (held now m)) (sym same) made)

-- the octets of a part are refused; its header was looked at
pub refuses_octets : (old : Held) (n : ℕ) (fault : FrameFault) → (part_at old.versions old.rest ≡ Err fault) × (fault ≢ faults.Short) → fault ≢ faults.Memory → Takes old (Err fault) (record old { looked = n })
refuses_octets old n faults.BadMagic part other = ((n, refl), inl part)
refuses_octets old n faults.BadVersion part other = ((n, refl), inl part)
refuses_octets old n faults.BadType part other = ((n, refl), inl part)
refuses_octets old n (faults.TooLarge size) part other = ((n, refl), inl part)
refuses_octets old n faults.BadFragment part other = ((n, refl), inl part)
refuses_octets old n (faults.Body at cdr) part other = ((n, refl), inl part)
refuses_octets old n faults.Short part other = ((n, refl), inl part)
refuses_octets old n faults.NotWritten part other = ((n, refl), inl part)
refuses_octets old n faults.Memory part other = absurd (other refl)

pub refused_octets : (versions : List Version) (messages : List Unfinished) (place : ℕ) (rest : List ℕ) (looked : ℕ) (refused : Option FrameFault) (kept memory spare : ℕ) (fault : FrameFault) (now : ℕ) (old : Held)
    → record { versions = versions; unfinished = messages; place = place; rest = rest; looked = looked; refused = refused; kept = kept; memory = memory; spare = spare } ≡ old → (part_at versions rest ≡ Err fault) × (fault ≢ faults.Short) → fault ≢ faults.Memory
    → Takes old (Err fault) (record { versions = versions; unfinished = messages; place = place; rest = rest; looked = now; refused = refused; kept = kept; memory = memory; spare = spare })
refused_octets versions messages place rest looked refused kept memory spare fault now old view part other =
    let held : ℕ → Held = λ n. record { versions = versions; unfinished = messages; place = place; rest = rest; looked = n; refused = refused; kept = kept; memory = memory; spare = spare } in
    let made : Takes (held looked) (Err fault) (held now) = refuses_octets (held looked) now fault part other in
    subst (λ (h : Held). Takes h (Err fault) (held now)) view made

placed : (versions : List Version) → (octets : List ℕ) (messages : List Framed) (old new now : Held) (fault : FrameFault) (n : ℕ) → new ≡ record old { looked = n } → now.place ≡ new.place → IsRefused versions messages old.place fault octets → IsRefused versions messages now.place fault octets
placed versions octets messages old new now fault n e is r = rw (is, e) r

-- what a part that is refused shows: want of memory, or a fault that is remembered
pub refused_by : (old new now : Held) (fault : FrameFault) → Takes old (Err fault) new → now ≡ remembering new fault → ((fault ≡ faults.Memory) ⊎ ((versions : List Version) (octets : List ℕ) (messages : List Framed) → Holds versions octets messages old → IsRefused versions messages now.place fault octets))
refused_by old new now faults.BadMagic t is = inr (λ versions octets messages h. placed versions octets messages old new now faults.BadMagic t.0.0 t.0.1 (ap (λ (x : Held). x.place) is) (holds_refused versions octets messages old faults.BadMagic t.1 h))
refused_by old new now faults.BadVersion t is = inr (λ versions octets messages h. placed versions octets messages old new now faults.BadVersion t.0.0 t.0.1 (ap (λ (x : Held). x.place) is) (holds_refused versions octets messages old faults.BadVersion t.1 h))
refused_by old new now faults.BadType t is = inr (λ versions octets messages h. placed versions octets messages old new now faults.BadType t.0.0 t.0.1 (ap (λ (x : Held). x.place) is) (holds_refused versions octets messages old faults.BadType t.1 h))
refused_by old new now (faults.TooLarge n) t is = inr (λ versions octets messages h. placed versions octets messages old new now (faults.TooLarge n) t.0.0 t.0.1 (ap (λ (x : Held). x.place) is) (holds_refused versions octets messages old (faults.TooLarge n) t.1 h))
refused_by old new now faults.BadFragment t is = inr (λ versions octets messages h. placed versions octets messages old new now faults.BadFragment t.0.0 t.0.1 (ap (λ (x : Held). x.place) is) (holds_refused versions octets messages old faults.BadFragment t.1 h))
refused_by old new now (faults.Body place cdr) t is = inr (λ versions octets messages h. placed versions octets messages old new now (faults.Body place cdr) t.0.0 t.0.1 (ap (λ (x : Held). x.place) is) (holds_refused versions octets messages old (faults.Body place cdr) t.1 h))
refused_by old new now faults.Short t is = inr (λ versions octets messages h. placed versions octets messages old new now faults.Short t.0.0 t.0.1 (ap (λ (x : Held). x.place) is) (holds_refused versions octets messages old faults.Short t.1 h))
refused_by old new now faults.NotWritten t is = inr (λ versions octets messages h. placed versions octets messages old new now faults.NotWritten t.0.0 t.0.1 (ap (λ (x : Held). x.place) is) (holds_refused versions octets messages old faults.NotWritten t.1 h))
refused_by old new now faults.Memory t is = inl refl

-- what is held when a refusal is remembered
remembers : (versions : List Version) → (octets : List ℕ) (messages : List Framed) (old : Held) (fault : FrameFault) (n : ℕ) → RefusesHeld old fault → Holds versions octets messages old → Holds versions octets messages (record old { looked = n; refused = Some fault })
remembers versions octets messages old fault n r h = record { parts = h.parts; versions_are = h.versions_are; splits = h.splits; unfinished_are = h.unfinished_are; place_is = h.place_is; refused = refuses_parts versions octets messages old fault h r }

-- the same, where it is remembered of what a call left
remembers_of : (versions : List Version) → (octets : List ℕ) (messages : List Framed) (old new now : Held) (fault : FrameFault) (n : ℕ) → new ≡ record old { looked = n } → now ≡ record new { refused = Some fault } → RefusesHeld old fault → Holds versions octets messages old → Holds versions octets messages now
remembers_of versions octets messages old new now fault n e is r h = rw (is, e) (remembers versions octets messages old fault n r h)

-- a look loses nothing
pub holds_looked : (versions : List Version) → (octets : List ℕ) (messages : List Framed) (old : Held) (n : ℕ) → Holds versions octets messages old → Holds versions octets messages (record old { looked = n })
holds_looked versions octets messages old n h = record { parts = h.parts; versions_are = h.versions_are; splits = h.splits; unfinished_are = h.unfinished_are; place_is = h.place_is; refused = h.refused }

-- a refusal, also want of memory, loses nothing
pub kept_by : (versions : List Version) → (octets : List ℕ) (messages : List Framed) (old new now : Held) (fault : FrameFault) → Takes old (Err fault) new → now ≡ remembering new fault → Holds versions octets messages old → Holds versions octets messages now
kept_by versions octets messages old new now faults.BadMagic t is h = remembers_of versions octets messages old new now faults.BadMagic t.0.0 t.0.1 is t.1 h
kept_by versions octets messages old new now faults.BadVersion t is h = remembers_of versions octets messages old new now faults.BadVersion t.0.0 t.0.1 is t.1 h
kept_by versions octets messages old new now faults.BadType t is h = remembers_of versions octets messages old new now faults.BadType t.0.0 t.0.1 is t.1 h
kept_by versions octets messages old new now (faults.TooLarge n) t is h = remembers_of versions octets messages old new now (faults.TooLarge n) t.0.0 t.0.1 is t.1 h
kept_by versions octets messages old new now faults.BadFragment t is h = remembers_of versions octets messages old new now faults.BadFragment t.0.0 t.0.1 is t.1 h
kept_by versions octets messages old new now (faults.Body place cdr) t is h = remembers_of versions octets messages old new now (faults.Body place cdr) t.0.0 t.0.1 is t.1 h
kept_by versions octets messages old new now faults.Short t is h = remembers_of versions octets messages old new now faults.Short t.0.0 t.0.1 is t.1 h
kept_by versions octets messages old new now faults.NotWritten t is h = remembers_of versions octets messages old new now faults.NotWritten t.0.0 t.0.1 is t.1 h
kept_by versions octets messages old new now faults.Memory t is h = rw (is, t.0.1) (holds_looked versions octets messages old t.0.0 h)

-- memory is wanted for a whole part
pub part_of : (old new now : Held) (fault : FrameFault) → Takes old (Err fault) new → now ≡ remembering new fault → fault ≡ faults.Memory → WantsMemory now
part_of old new now faults.BadMagic t is e = absurd cc
part_of old new now faults.BadVersion t is e = absurd cc
part_of old new now faults.BadType t is e = absurd cc
part_of old new now (faults.TooLarge n) t is e = absurd cc
part_of old new now faults.BadFragment t is e = absurd cc
part_of old new now (faults.Body place cdr) t is e = absurd cc
part_of old new now faults.Short t is e = absurd cc
part_of old new now faults.NotWritten t is e = absurd cc
part_of old new now faults.Memory t is e = rw (is, t.0.1) t.1

-- a call that answers want of memory has met it
pub memory_is : {X : Type 0} (fault : FrameFault) (result : Result X FrameFault) → result ≡ Err fault → result ≡ Err faults.Memory → fault ≡ faults.Memory
memory_is {X} fault result e memory = err_is {A = X} fault faults.Memory (sym e ∙ memory)

-- less is left behind a part
pub shorter : HeaderLaws → (old new : Held) (answer : Option Framed) → Took old answer new → length new.rest < length old.rest
shorter laws old new answer t =
    let f = part_found laws old.versions old.rest t.part new.rest t.stands in
    let p = f.is_part.part in
    omega (arith, ap length f.parts, length-append f.front new.rest, ap length p.parts, length-append magic (version_octets t.part.header.version ++ (p.flags ∷ type_octet t.part.header.kind ∷ (p.size ++ t.part.content))))

-- a refusal leaves the buffer and its memory
pub buffer_by : (old new now : Held) (fault : FrameFault) → Takes old (Err fault) new → now ≡ remembering new fault → (now.kept ≡ old.kept) × (now.memory ≡ old.memory)
buffer_by old new now faults.BadMagic t is = rw (is, t.0.1) (refl, refl)
buffer_by old new now faults.BadVersion t is = rw (is, t.0.1) (refl, refl)
buffer_by old new now faults.BadType t is = rw (is, t.0.1) (refl, refl)
buffer_by old new now (faults.TooLarge n) t is = rw (is, t.0.1) (refl, refl)
buffer_by old new now faults.BadFragment t is = rw (is, t.0.1) (refl, refl)
buffer_by old new now (faults.Body at cdr) t is = rw (is, t.0.1) (refl, refl)
buffer_by old new now faults.Short t is = rw (is, t.0.1) (refl, refl)
buffer_by old new now faults.NotWritten t is = rw (is, t.0.1) (refl, refl)
buffer_by old new now faults.Memory t is = rw (is, t.0.1) (refl, refl)
