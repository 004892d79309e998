-- A step of a walk leaves what follows to the next step.
use Rattle.std.proofs.Common.{◌≡◌, ℕ, zero, suc, ◌+◌, ◌-◌, ◌<◌, ◌≤◌, arith, List, [], ◌∷◌, ◌++◌, length, take, drop, set, map, get_or, take_all, Option, Some, None, Result, Ok, Err, refl, sym, ap, subst, ◌∙◌, append_assoc}
use Rattle.std.proofs.lemmas.Bool.{le-ltb}
use Rattle.std.proofs.lemmas.List.{append-nil, drop-drop, drop_at, take_at, drop-append-le, length-append, length-drop, take-append-le, take_more_set, map_push}
use Rattle.cdr_values.specs.declared.order.Order.{Order}
use Rattle.cdr_values.specs.Value.{Octet, UShort, ULong, OctetSequence, Text, number_in}
use Rattle.cdr_values.specs.Reading.{Reading, ◌>>=◌, number_at, sized_at, octet_at, ushort_at, ulong_at, octets_at, string_at}
use Rattle.cdr_values.specs.Sequence.{each_at, sequence_at}
use Rattle.cdr_values.specs.Tagged.{reference_at, tagged_at}
use Rattle.cdr_values.specs.Laws.{ReadingLaws}
use Rattle.giop_frames.specs.declared.fault.FrameFault.{FrameFault}
use Rattle.giop_frames.specs.declared.header.Header.{Header}
use Rattle.giop_frames.specs.declared.header.Kind.{Kind}
use Rattle.giop_frames.specs.declared.header.Kind.TheVariants as kinds
use Rattle.giop_frames.specs.declared.layout.Version.{Version}
use Rattle.giop_frames.specs.declared.layout.Version.TheVariants.{V1_2}
use Rattle.giop_frames.specs.declared.layout.Field.{Field}
use Rattle.giop_frames.specs.declared.layout.Field.TheVariants as fields
use Rattle.giop_frames.specs.declared.found.Span.{Span}
use Rattle.giop_frames.specs.declared.found.FoundTarget.TheVariants as targets
use Rattle.giop_frames.specs.declared.found.Found.{Found}
use Rattle.giop_frames.specs.declared.walk.Step.{Step}
use Rattle.giop_frames.specs.declared.walk.Step.TheVariants as steps
use Rattle.giop_frames.specs.declared.walk.Walk.{Walk}
use Rattle.giop_frames.specs.declared.message.ServiceContext.{ServiceContext}
use Rattle.giop_frames.specs.declared.message.Target.{Target}
use Rattle.giop_frames.specs.declared.message.Target.TheVariants.{Reference}
use Rattle.giop_frames.specs.Fault.{fault_of, too_long}
use Rattle.giop_frames.specs.Layout.{Fields, blank, kept_tail, layout, message_with, tail_start}
use Rattle.giop_frames.specs.Content.{as_target, telling_target, key_at, profile_at, indexed_at, target_at, context_at, field_at, fields_at, message_by, message_of, start_by, start_of}
use Rattle.giop_frames.specs.Walk.{FindsOctets, FindsTagged, GoesOn, IsBehind, IsDone, IsWalked, StandsBefore, StandsIn, context_of, fields_by, followed, left_at, place_behind_id, standing, step_at, telling_contexts, told_by, walk_left}
use Rattle.giop_frames.specs.Limits.{context_limit, key_limit, profile_limit}
use Rattle.giop_frames.proofs.Given.{reading_is}
use Rattle.giop_frames.proofs.Followed.{here, further_on, kept, passed}

-- ---- where octets stand that were found

-- octets behind a front
stands_at : (content front octets behind : List ℕ) (place start : ℕ) → 12 ≤ place → drop (place - 12) content ≡ front ++ (octets ++ behind) → start ≡ place + length front - 12 → take (length octets) (drop start content) ≡ octets
stands_at content front octets behind place start low rest at =
    let further : start ≡ (place - 12) + length front = omega arith in
    ap (λ (n : ℕ). take (length octets) (drop n content)) further ∙ ap (take (length octets)) (sym (drop-drop (length front) (place - 12) content))
    ∙ ap (λ (x : List ℕ). take (length octets) (drop (length front) x)) rest ∙ ap (take (length octets)) (drop_at front (octets ++ behind) (length front) refl) ∙ take_at octets behind (length octets) refl

-- the octets of a sequence
pub octets_found : ReadingLaws → (r s : Reading) (octets : List ℕ) (span : Span) → octets_at r ≡ Ok (octets, s) → span.length ≡ length octets → span.start ≡ s.place - length octets - 12 → FindsOctets octets_at span r s
octets_found laws r s octets span e n at =
    let h = laws.octets.found r octets s e in
    let p = h.spelled in
    let front = p.padding ++ p.is_bare.count in
    let parts : h.octets ≡ front ++ octets = p.parts ∙ ap (λ (x : List ℕ). p.padding ++ x) p.is_bare.parts ∙ sym (append_assoc p.padding p.is_bare.count octets) in
    let start : span.start ≡ r.place + length front - 12 = omega (arith, at, h.place, ap length parts, length-append front octets) in
    record {
      octets = octets;
      found = e;
      length_is = n;
      few = omega (arith, n, p.is_bare.few);
      stands = λ more content st.
          let split : drop (r.place - 12) content ≡ front ++ (octets ++ (s.rest ++ more)) =
          sym st.rest ∙ ap (λ (x : List ℕ). x ++ more) (h.front ∙ ap (λ (x : List ℕ). x ++ s.rest) parts) ∙ append_assoc (front ++ octets) s.rest more ∙ append_assoc front octets (s.rest ++ more) in
          ap (λ (k : ℕ). take k (drop span.start content)) n ∙ stands_at content front octets (s.rest ++ more) r.place span.start st.behind_header split start;
    }

-- the text of a string
pub text_found : ReadingLaws → (r s : Reading) (text : List ℕ) (span : Span) → string_at r ≡ Ok (text, s) → span.length ≡ length text → span.start ≡ s.place - length text - 1 - 12 → FindsOctets string_at span r s
text_found laws r s text span e n at =
    let h = laws.string.found r text s e in
    let p = h.spelled in
    let is = p.is_bare.0 in
    let nul : List ℕ = 0 ∷ [] in
    let front = p.padding ++ is.count in
    let parts : h.octets ≡ front ++ (text ++ nul) = p.parts ∙ ap (λ (x : List ℕ). p.padding ++ x) is.parts ∙ sym (append_assoc p.padding is.count (text ++ nul)) in
    let start : span.start ≡ r.place + length front - 12 = omega (arith, at, h.place, ap length parts, length-append front (text ++ nul), length-append text nul) in
    record {
      octets = text;
      found = e;
      length_is = n;
      few = omega (arith, n, is.few, length-append text nul);
      stands = λ more content st.
          let behind : List ℕ = nul ++ (s.rest ++ more) in
          let split : drop (r.place - 12) content ≡ front ++ (text ++ behind) =
          sym st.rest ∙ ap (λ (x : List ℕ). x ++ more) (h.front ∙ ap (λ (x : List ℕ). x ++ s.rest) parts) ∙ append_assoc (front ++ (text ++ nul)) s.rest more ∙ append_assoc front (text ++ nul) (s.rest ++ more)
          ∙ ap (λ (x : List ℕ). front ++ x) (append_assoc text nul (s.rest ++ more)) in
          ap (λ (k : ℕ). take k (drop span.start content)) n ∙ stands_at content front text behind r.place span.start st.behind_header split start;
    }

-- ---- where a reader stands

-- a reader that went on stands in the same content
stands_on : (content : List ℕ) (r s : Reading) (more : List ℕ) → IsBehind r s → StandsIn content (followed r more) → StandsIn content (followed s more)
stands_on content r s more b st =
    let further : s.place - 12 ≡ (r.place - 12) + length b.octets = omega (arith, b.place, st.behind_header) in
    let split : drop (r.place - 12) content ≡ b.octets ++ (s.rest ++ more) = sym st.rest ∙ ap (λ (x : List ℕ). x ++ more) b.front ∙ append_assoc b.octets s.rest more in
    let rest : drop (s.place - 12) content ≡ s.rest ++ more =
    ap (λ (n : ℕ). drop n content) further ∙ sym (drop-drop (length b.octets) (r.place - 12) content) ∙ ap (drop (length b.octets)) split ∙ drop_at b.octets (s.rest ++ more) (length b.octets) refl in
    record { behind_header = omega (arith, b.place, st.behind_header); rest = sym rest }

-- ---- fields of one value

pub id_told : ReadingLaws → (old : Found) (r s : Reading) (id : ℕ) → ulong_at r ≡ Ok (id, s) → GoesOn (steps.Front fields.Id) old r None (record old { id = id }) s
unfolding step_at field_at
id_told laws old r s id e = record {
  behind = passed ulong_at ULong laws.ulong r id s e;
  same = λ more content st. rw (kept ulong_at ULong laws.ulong r id s e more) refl;
  room = tt;
  less = omega arith;
}

pub flags_told : ReadingLaws → (old : Found) (r s : Reading) (flags : ℕ) → octet_at r ≡ Ok (flags, s) → GoesOn (steps.Front fields.Flags) old r None (record old { flags = flags }) s
unfolding step_at field_at
flags_told laws old r s flags e = record {
  behind = passed octet_at Octet laws.octet r flags s e;
  same = λ more content st. rw (kept octet_at Octet laws.octet r flags s e more) refl;
  room = tt;
  less = omega arith;
}

pub reserved_passed : ReadingLaws → (old : Found) (r s : Reading) (octet : ℕ) → octet_at r ≡ Ok (octet, s) → GoesOn (steps.Front fields.Reserved) old r None old s
unfolding step_at field_at
reserved_passed laws old r s octet e = record {
  behind = passed octet_at Octet laws.octet r octet s e;
  same = λ more content st. rw (kept octet_at Octet laws.octet r octet s e more) refl;
  room = tt;
  less = omega arith;
}

pub status_told : ReadingLaws → (old : Found) (r s : Reading) (status : ℕ) → ulong_at r ≡ Ok (status, s) → GoesOn (steps.Front fields.Status) old r None (record old { status = status }) s
unfolding step_at field_at
status_told laws old r s status e = record {
  behind = passed ulong_at ULong laws.ulong r status s e;
  same = λ more content st. rw (kept ulong_at ULong laws.ulong r status s e more) refl;
  room = tt;
  less = omega arith;
}

pub operation_told : ReadingLaws → (old : Found) (r s : Reading) (span : Span) → FindsOctets string_at span r s → GoesOn (steps.Front fields.Operation) old r None (record old { operation = span }) s
unfolding step_at field_at
operation_told laws old r s span f = record {
  behind = passed string_at Text laws.string r f.octets s f.found;
  same = λ more content st. rw (kept string_at Text laws.string r f.octets s f.found more, f.stands more content st) refl;
  room = tt;
  less = omega arith;
}

-- ---- a target

pub key_begun : ReadingLaws → (old : Found) (r s : Reading) → ushort_at r ≡ Ok (0, s) → GoesOn (steps.Front fields.Target) old r (Some steps.Key) old s
unfolding step_at field_at target_at
key_begun laws old r s e = record {
  behind = passed ushort_at UShort laws.ushort r 0 s e;
  same = λ more content st. rw (kept ushort_at UShort laws.ushort r 0 s e more) refl;
  room = tt;
  less = omega arith;
}

pub profile_begun : ReadingLaws → (old : Found) (r s : Reading) → ushort_at r ≡ Ok (1, s) → GoesOn (steps.Front fields.Target) old r (Some steps.Profile) old s
unfolding step_at field_at target_at
profile_begun laws old r s e = record {
  behind = passed ushort_at UShort laws.ushort r 1 s e;
  same = λ more content st. rw (kept ushort_at UShort laws.ushort r 1 s e more) refl;
  room = tt;
  less = omega arith;
}

pub reference_begun : ReadingLaws → (old : Found) (r s : Reading) → ushort_at r ≡ Ok (2, s) → GoesOn (steps.Front fields.Target) old r (Some steps.Index) old s
unfolding step_at field_at target_at
reference_begun laws old r s e = record {
  behind = passed ushort_at UShort laws.ushort r 2 s e;
  same = λ more content st. rw (kept ushort_at UShort laws.ushort r 2 s e more) refl;
  room = tt;
  less = omega arith;
}

pub key_told : ReadingLaws → (old : Found) (r s : Reading) (span : Span) → FindsOctets octets_at span r s → span.length ≤ key_limit → GoesOn steps.Key old r None (record old { target = targets.Key span }) s
unfolding step_at key_at
key_told laws old r s span f few =
    let short : length f.octets ≤ key_limit = omega (arith, few, f.length_is) in
    record {
      behind = passed octets_at OctetSequence laws.octets r f.octets s f.found;
      same = λ more content st. rw (kept octets_at OctetSequence laws.octets r f.octets s f.found more, le-ltb key_limit (length f.octets) short, f.stands more content st) refl;
      room = tt;
      less = omega arith;
    }

pub index_passed : ReadingLaws → (old : Found) (r s : Reading) (index : ℕ) → ulong_at r ≡ Ok (index, s) → GoesOn steps.Index old r (Some steps.TypeId) old s
unfolding step_at indexed_at
index_passed laws old r s index e = record {
  behind = passed ulong_at ULong laws.ulong r index s e;
  same = λ more content st. rw (kept ulong_at ULong laws.ulong r index s e more) refl;
  room = tt;
  less = omega arith;
}

-- what is passed over is the same target, however much of it is kept
repacked : {A B : Type 0} (t : Target) (pack : A → B) (read : Result (A × Reading) FrameFault) → as_target t (read >>= λ found. Ok (pack found.0, found.1)) ≡ as_target t read
repacked t pack (Ok found) = refl
repacked t pack (Err fault) = refl

pub type_id_passed : ReadingLaws → (old : Found) (r s : Reading) (type_id : List ℕ) → string_at r ≡ Ok (type_id, s) → GoesOn steps.TypeId old r (Some steps.Count) old s
unfolding step_at reference_at
type_id_passed laws old r s type_id e = record {
  behind = passed string_at Text laws.string r type_id s e;
  same = λ more content st.
      let profiles = sequence_at profile_limit fault_of too_long (tagged_at fault_of) (followed s more) in
      rw (kept string_at Text laws.string r type_id s e more)
      (ap (telling_target (told_by content old)) (repacked {A = List (ℕ × List ℕ)} {B = List ℕ × List (ℕ × List ℕ)} Reference (λ found. (type_id, found)) profiles));
  room = tt;
  less = omega arith;
}

pub count_passed : ReadingLaws → (old : Found) (r s : Reading) (count : ℕ) → ulong_at r ≡ Ok (count, s) → count ≤ profile_limit → GoesOn steps.Count old r (Some (steps.Profiles count)) old s
unfolding step_at sequence_at
count_passed laws old r s count e few = record {
  behind = passed ulong_at ULong laws.ulong r count s e;
  same = λ more content st. rw (kept ulong_at ULong laws.ulong r count s e more, le-ltb profile_limit count few) refl;
  room = tt;
  less = omega arith;
}

pub tagged_found : ReadingLaws → (r a s : Reading) (tag : ℕ) (span : Span) → ulong_at r ≡ Ok (tag, a) → FindsOctets octets_at span a s → FindsTagged tag span r s
unfolding tagged_at
tagged_found laws r a s tag span one f =
    let first = passed ulong_at ULong laws.ulong r tag a one in
    record {
      octets = f.octets;
      behind = further_on r a s first (passed octets_at OctetSequence laws.octets a f.octets s f.found);
      same = λ more. rw (kept ulong_at ULong laws.ulong r tag a one more, kept octets_at OctetSequence laws.octets a f.octets s f.found more) refl;
      stands = λ more content st. f.stands more content (stands_on content r a more first st);
    }

pub profile_told : (old : Found) (r s : Reading) (tag : ℕ) (span : Span) → FindsTagged tag span r s → GoesOn steps.Profile old r None (record old { target = targets.Profile }) s
unfolding step_at profile_at
profile_told old r s tag span p = record {
  behind = p.behind;
  same = λ more content st. rw (p.same more) refl;
  room = tt;
  less = omega arith;
}

pub reference_told : (old : Found) (r : Reading) (left : ℕ) → left ≡ 0 → GoesOn (steps.Profiles left) old r None (record old { target = targets.Reference }) r
unfolding step_at each_at
reference_told old r left none = record {
  behind = here r;
  same = λ more content st. rw none refl;
  room = tt;
  less = omega arith;
}

pub profiles_passed : (old : Found) (r s : Reading) (left tag : ℕ) (span : Span) → 0 < left → FindsTagged tag span r s → GoesOn (steps.Profiles left) old r (Some (steps.Profiles (left - 1))) old s
unfolding step_at each_at
profiles_passed old r s zero tag span some p = absurd (omega (arith, some))
profiles_passed old r s (suc left) tag span some p =
    let one_less : suc left - 1 ≡ left = omega arith in
    record {
      behind = p.behind;
      same = λ more content st.
          let others = each_at (tagged_at fault_of) left (followed s more) in
          rw (p.same more, one_less)
          (ap (telling_target (told_by content old)) (repacked {A = List (ℕ × List ℕ)} {B = List (ℕ × List ℕ)} Reference (λ found. (tag, p.octets) ∷ found) others));
      room = tt;
      less = omega arith;
    }

pub profiles_fail : (left : ℕ) (r : Reading) (fault : FrameFault) → 0 < left → tagged_at fault_of r ≡ Err fault → (told : Fields) → step_at (steps.Profiles left) told r ≡ Err fault
unfolding step_at each_at
profiles_fail zero r fault some e told = absurd (omega (arith, some))
profiles_fail (suc left) r fault some e told = rw e refl

-- ---- contexts

pub contexts_fail : (left : ℕ) (r : Reading) (fault : FrameFault) → 0 < left → tagged_at fault_of r ≡ Err fault → (told : Fields) → step_at (steps.Contexts left) told r ≡ Err fault
unfolding step_at each_at context_at
contexts_fail zero r fault some e told = absurd (omega (arith, some))
contexts_fail (suc left) r fault some e told = rw e refl

pub contexts_begun : ReadingLaws → (old : Found) (r s : Reading) (count : ℕ) → ulong_at r ≡ Ok (count, s) → count ≤ context_limit → GoesOn (steps.Front fields.Contexts) old r (Some (steps.Contexts count)) (record old { count = 0 }) s
unfolding step_at field_at sequence_at
contexts_begun laws old r s count e few = record {
  behind = passed ulong_at ULong laws.ulong r count s e;
  same = λ more content st. rw (kept ulong_at ULong laws.ulong r count s e more, le-ltb context_limit count few) refl;
  room = omega arith;
  less = omega arith;
}

pub no_contexts : ReadingLaws → (old : Found) (r s : Reading) (count : ℕ) → ulong_at r ≡ Ok (count, s) → count ≡ 0 → GoesOn (steps.Front fields.Contexts) old r None (record old { count = 0 }) s
unfolding step_at field_at sequence_at each_at
no_contexts laws old r s count e none = record {
  behind = passed ulong_at ULong laws.ulong r count s e;
  same = λ more content st. rw (kept ulong_at ULong laws.ulong r count s e more, none) refl;
  room = tt;
  less = omega arith;
}

pub contexts_told : (old : Found) (r : Reading) (left : ℕ) → left ≡ 0 → GoesOn (steps.Contexts left) old r None old r
unfolding step_at each_at
contexts_told old r left none = record {
  behind = here r;
  same = λ more content st. rw none (ap (λ (cs : List ServiceContext). Ok (record (told_by content old) { contexts = cs }, followed r more)) (append-nil (told_by content old).contexts));
  room = tt;
  less = omega arith;
}

-- a context in front of those that were read
abbrev begun_with : ServiceContext → Result (List ServiceContext × Reading) FrameFault → Result (List ServiceContext × Reading) FrameFault
begun_with c read = read >>= λ others. Ok (c ∷ others.0, others.1)

-- it belongs behind those that were found
regrouped : (told : Fields) (front : List ServiceContext) (c : ServiceContext) (read : Result (List ServiceContext × Reading) FrameFault) → telling_contexts told front (begun_with c read) ≡ telling_contexts told (front ++ c ∷ []) read
regrouped told front c (Ok x) = ap (λ (cs : List ServiceContext). Ok (record told { contexts = cs }, x.1)) (sym (append_assoc front (c ∷ []) x.0))
regrouped told front c (Err fault) = refl

pub context_told : (old : Found) (r s : Reading) (left id : ℕ) (bytes : Span) → 0 < left → left + old.count ≤ context_limit → old.count < length old.contexts → FindsTagged id bytes r s
    → GoesOn (steps.Contexts left) old r (Some (steps.Contexts (left - 1))) (record old { contexts = set old.contexts old.count (record { id = id; bytes = bytes }); count = old.count + 1 }) s
unfolding step_at each_at context_at
context_told old r s zero id bytes some room within f = absurd (omega (arith, some))
context_told old r s (suc left) id bytes some room within f =
    let one_less : suc left - 1 ≡ left = omega arith in
    let new : Found = record old { contexts = set old.contexts old.count (record { id = id; bytes = bytes }); count = old.count + 1 } in
    record {
      behind = f.behind;
      same = λ more content st.
          let told = told_by content old in
          let context : context_of content (record { id = id; bytes = bytes }) ≡ record { id = id; bytes = f.octets } = ap (λ (x : List ℕ). record { id = id; bytes = x }) (f.stands more content st) in
          let kept_contexts : map (context_of content) (take (old.count + 1) new.contexts) ≡ told.contexts ++ record { id = id; bytes = f.octets } ∷ [] =
          ap (map (context_of content)) (take_more_set old.contexts old.count (record { id = id; bytes = bytes }) within) ∙ map_push (context_of content) (take old.count old.contexts) (record { id = id; bytes = bytes })
          ∙ ap (λ (c : ServiceContext). told.contexts ++ c ∷ []) context in
          rw (f.same more, one_less, kept_contexts)
          (regrouped told told.contexts (record { id = id; bytes = f.octets }) (each_at context_at left (followed s more)));
      room = omega (arith, room);
      less = omega arith;
    }

-- ---- from one step to the next

-- a reader of a content, where more octets follow
longer : (order : Order) (content more : List ℕ) (place : ℕ) → 12 ≤ place → place ≤ 12 + length content → followed (standing order content place) more ≡ standing order (content ++ more) place
longer order content more place low within =
    let short : place - 12 ≤ length content = omega arith in
    reading_is (followed (standing order content place) more) (standing order (content ++ more) place) refl refl (sym (drop-append-le (place - 12) content more short))

-- the reader stands where it is said to stand
pub stands : (order : Order) (content : List ℕ) (place : ℕ) (r s : Reading) → 12 ≤ place → r ≡ standing order content place → IsBehind r s → s ≡ standing order content s.place
stands order content place r s low is b =
    let start : r.place ≡ place = ap (λ (x : Reading). x.place) is in
    let in_r : StandsIn content (followed r []) = record {
      behind_header = omega (arith, start, low);
      rest = append-nil r.rest ∙ ap (λ (x : Reading). x.rest) is ∙ ap (λ (n : ℕ). drop (n - 12) content) (sym start);
    } in
    let in_s = stands_on content r s [] b in_r in
    reading_is s (standing order content s.place) (b.order ∙ ap (λ (x : Reading). x.order) is) refl (sym (append-nil s.rest) ∙ in_s.rest)

-- the first of some fields, and the others
pub first_field : (xs : List Field) (one : Field) → 1 ≤ length xs → xs ≡ get_or xs 0 one ∷ take (length xs - 1) (drop 1 xs)
first_field [] one some = absurd (omega (arith, some))
first_field (x ∷ xs) one some = ap (λ (t : List Field). x ∷ t) (sym (take_all (length (x ∷ xs) - 1) xs (omega arith)))

pub no_field : (xs : List Field) → length xs < 1 → xs ≡ []
no_field [] none = refl
no_field (x ∷ xs) none = absurd (omega (arith, none))

-- where a step is left of a field, that is the next one
pub before_step : (w : Walk) (step : Step) → w.step ≡ Some step → StandsBefore w (Some step) w
before_step w step is = record {
  step = is;
  ended = λ e. absurd cc;
  place = refl;
  found = refl;
  room = λ h. h;
  less = omega arith;
  same = λ told r. refl;
}

-- where no field is left, no step is
pub before_end : (w : Walk) → w.step ≡ None → w.fields.now ≡ [] → StandsBefore w None w
before_end w is ended = record {
  step = is;
  ended = λ e. ended;
  place = refl;
  found = refl;
  room = λ h. h;
  less = omega arith;
  same = λ told r. refl;
}

-- and else it is the next field, from its front
pub before_field : (old new : Walk) (one : Field) → old.step ≡ None → old.fields.now ≡ one ∷ new.fields.now → new.step ≡ Some (steps.Front one) → new.place ≡ old.place → new.found ≡ old.found → StandsBefore old (Some (steps.Front one)) new
unfolding step_at
before_field old new one is split step place found =
    let before : walk_left old.step old.fields.now ≡ walk_left None (one ∷ new.fields.now) = ap (λ (s : Option Step). walk_left s old.fields.now) is ∙ ap (walk_left None) split in
    record {
      step = step;
      ended = λ e. absurd cc;
      place = place;
      found = found;
      room = λ h. rw step tt;
      less = rw (step, before) (omega arith);
      same = λ told r. rw (is, split, step) refl;
    }

-- the walk in front of its next step
pub walked_before : (header : Header) (content : List ℕ) (old new : Walk) (next : Option Step) → IsWalked header content old → StandsBefore old next new → IsWalked header content new
walked_before header content old new next is b =
    let place : new.place ≡ old.place = b.place in
    record {
      behind_header = omega (arith, is.behind_header, place);
      within = omega (arith, is.within, place);
      room = b.room is.room;
      same = λ more.
          is.same more ∙ b.same (told_by (content ++ more) old.found) (standing header.order (content ++ more) old.place) ∙ ap (λ (f : Found). left_at new.step new.fields.now (told_by (content ++ more) f) (standing header.order (content ++ more) old.place)) (sym b.found)
          ∙ ap (λ (n : ℕ). left_at new.step new.fields.now (told_by (content ++ more) new.found) (standing header.order (content ++ more) n)) (sym b.place);
    }

-- the walk behind a step
pub walked_behind : (header : Header) (content : List ℕ) (old new : Walk) (step : Step) (r s : Reading) → IsWalked header content old → old.step ≡ Some step → r ≡ standing header.order content old.place
    → GoesOn step old.found r new.step new.found s → new.place ≡ s.place → new.fields.now ≡ old.fields.now → IsWalked header content new
walked_behind header content old new step r s is at stood g place fields =
    let b = g.behind in
    let start : r.place ≡ old.place = ap (λ (x : Reading). x.place) stood in
    let rest : drop (old.place - 12) content ≡ b.octets ++ s.rest = sym (ap (λ (x : Reading). x.rest) stood) ∙ b.front in
    let long : length (drop (old.place - 12) content) ≡ length content - (old.place - 12) = length-drop (old.place - 12) content in
    let low : 12 ≤ new.place = omega (arith, is.behind_header, b.place, start, place) in
    let within : new.place ≤ 12 + length content = omega (arith, is.behind_header, is.within, b.place, start, place, ap length rest, length-append b.octets s.rest, long) in
    let ended : s ≡ standing header.order content new.place = stands header.order content old.place r s is.behind_header stood b ∙ ap (standing header.order content) (sym place) in
    record {
      behind_header = low;
      within = within;
      room = g.room;
      same = λ more.
          let whole = content ++ more in
          let before : followed r more ≡ standing header.order whole old.place = ap (λ (x : Reading). followed x more) stood ∙ longer header.order content more old.place is.behind_header is.within in
          let behind : followed s more ≡ standing header.order whole new.place = ap (λ (x : Reading). followed x more) ended ∙ longer header.order content more new.place low within in
          let st : StandsIn whole (followed r more) = rw before (record { behind_header = is.behind_header; rest = refl }) in
          is.same more ∙ ap (λ (n : Option Step). left_at n old.fields.now (told_by whole old.found) (standing header.order whole old.place)) at ∙ ap (λ (q : Reading). left_at (Some step) old.fields.now (told_by whole old.found) q) (sym before)
          ∙ ap (λ (x : Result (Fields × Reading) FrameFault). x >>= λ next. fields_at old.fields.now next.0 next.1) (g.same more whole st)
          ∙ ap (λ (q : Reading). left_at new.step old.fields.now (told_by whole new.found) q) behind ∙ ap (λ (f : List Field). left_at new.step f (told_by whole new.found) (standing header.order whole new.place)) (sym fields);
    }

-- what is left is told by the walk
walked_now : (header : Header) (content : List ℕ) (w : Walk) → IsWalked header content w
    → fields_by header content ≡ left_at w.step w.fields.now (told_by content w.found) (standing header.order content w.place)
walked_now header content w is =
    subst (λ (x : List ℕ). fields_by header x ≡ left_at w.step w.fields.now (told_by x w.found) (standing header.order x w.place)) (append-nil content) (is.same [])

-- a fault of the next step is the fields' fault
pub step_fails : (header : Header) (content : List ℕ) (w : Walk) (step : Step) (r : Reading) (fault : FrameFault) → IsWalked header content w → w.step ≡ Some step → r ≡ standing header.order content w.place
    → ((told : Fields) → step_at step told r ≡ Err fault) → fields_by header content ≡ Err fault
step_fails header content w step r fault is at stood e =
    let told = told_by content w.found in
    walked_now header content w is ∙ ap (λ (n : Option Step). left_at n w.fields.now told (standing header.order content w.place)) at ∙ ap (λ (q : Reading). left_at (Some step) w.fields.now told q) (sym stood)
    ∙ ap (λ (x : Result (Fields × Reading) FrameFault). x >>= λ next. fields_at w.fields.now next.0 next.1) (e told)

-- ---- the message

-- where no field is left, the fields tell what was found
pub all_walked : (header : Header) (content : List ℕ) (w : Walk) → IsWalked header content w → IsDone w → fields_by header content ≡ Ok (told_by content w.found, standing header.order content w.place)
all_walked header content w is done =
    let told = told_by content w.found in
    walked_now header content w is ∙ ap (λ (n : Option Step). left_at n w.fields.now told (standing header.order content w.place)) done.step ∙ ap (λ (f : List Field). fields_at f told (standing header.order content w.place)) done.fields

pub message_walked : (header : Header) (content : List ℕ) (w : Walk) → IsWalked header content w → IsDone w
    → message_by header content ≡ message_with header.order header.kind (told_by content w.found) (kept_tail header.version header.kind w.place (drop (w.place - 12) content))
unfolding message_of
message_walked header content w is done = rw (all_walked header content w is done) refl

pub start_walked : (header : Header) (content : List ℕ) (w : Walk) → IsWalked header content w → IsDone w → start_by header content ≡ tail_start header.version header.kind w.place
unfolding start_of
start_walked header content w is done = rw (all_walked header content w is done) refl

-- a fault of the fields is the message's
pub message_fails : (header : Header) (content : List ℕ) (fault : FrameFault) → fields_by header content ≡ Err fault → message_by header content ≡ Err fault
unfolding message_of
message_fails header content fault e = rw e refl

-- ---- behind a request_id

-- a request_id in front of a content
id_read : (order : Order) (octets : List ℕ) (told : Fields) → 4 ≤ length octets → field_at fields.Id told (standing order octets 12) ≡ Ok (record told { id = number_in order 4 (take 4 octets) }, standing order octets 16)
unfolding field_at number_at sized_at
id_read order octets told long = rw (le-ltb (length octets) 4 long) refl

-- a walk behind it has found it
pub walked_id : (header : Header) (content : List ℕ) (id : ℕ) (w : Walk) → layout header.version header.kind ≡ fields.Id ∷ w.fields.now → w.step ≡ None → w.place ≡ 16 → ((octets : List ℕ) → told_by octets w.found ≡ record blank { id = id }) → 4 ≤ length content → id ≡ number_in header.order 4 (take 4 content) → IsWalked header content w
walked_id header content id w table step place told long is = record {
  behind_header = omega (arith, place);
  within = omega (arith, place, long);
  room = rw step tt;
  same = λ more.
      let all : List ℕ = content ++ more in
      let number : number_in header.order 4 (take 4 all) ≡ id = ap (number_in header.order 4) (take-append-le 4 content more long) ∙ sym is in
      let read = id_read header.order all blank (omega (arith, long, length-append content more)) in
      rw (table, read, number, step, told all, place) refl;
}

-- the table of each message that has fields begins with it
pub id_first : (version : Version) (kind : Kind) (xs : List Field) → xs ≡ layout version kind → 1 ≤ length xs → layout version kind ≡ fields.Id ∷ take (length xs - 1) (drop 1 xs)
id_first V1_2 kinds.Request xs is some = rw is refl
id_first V1_2 kinds.Reply xs is some = rw is refl
id_first V1_2 kinds.CancelRequest xs is some = rw is refl
id_first V1_2 kinds.LocateRequest xs is some = rw is refl
id_first V1_2 kinds.LocateReply xs is some = rw is refl
id_first V1_2 kinds.CloseConnection xs is some = absurd (omega (arith, ap length is, some))
id_first V1_2 kinds.MessageError xs is some = absurd (omega (arith, ap length is, some))
id_first V1_2 kinds.Fragment xs is some = absurd (omega (arith, ap length is, some))

-- and behind none a walk stands at the front
pub none_behind : (version : Version) (kind : Kind) (xs : List Field) → xs ≡ layout version kind → length xs < 1 → place_behind_id (layout version kind) ≡ 12
none_behind V1_2 kinds.Request xs is none = absurd (omega (arith, ap length is, none))
none_behind V1_2 kinds.Reply xs is none = absurd (omega (arith, ap length is, none))
none_behind V1_2 kinds.CancelRequest xs is none = absurd (omega (arith, ap length is, none))
none_behind V1_2 kinds.LocateRequest xs is none = absurd (omega (arith, ap length is, none))
none_behind V1_2 kinds.LocateReply xs is none = absurd (omega (arith, ap length is, none))
none_behind V1_2 kinds.CloseConnection xs is none = refl
none_behind V1_2 kinds.MessageError xs is none = refl
none_behind V1_2 kinds.Fragment xs is none = refl
