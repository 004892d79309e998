-- Contexts are read exactly where their values stand.
use Rattle.std.proofs.Common.{◌≡◌, ℕ, zero, suc, ◌≤◌, ◌&&◌, Bool, true, false, cond, eqb, ltb, List, [], ◌∷◌, ◌++◌, length, map, Result, Ok, Err, refl, sym, ap, subst, ◌∙◌, arith}
use Rattle.std.specs.List.{flat_map, list_all}
use Rattle.std.proofs.lemmas.Bool.{ltb-false, le-ltb, and_parts}
use Rattle.cdr_values.specs.declared.fault.CdrFault.{CdrFault}
use Rattle.cdr_values.specs.Laws.{ReadingLaws}
use Rattle.cdr_values.specs.Reading.{Reading, Reads, ◌>>=◌, ulong_at, octets_at}
use Rattle.cdr_values.specs.Sequence.{fault_as, each_at, sequence_at, sequence_values}
use Rattle.cdr_values.specs.Tagged.{reference_values}
use Rattle.cdr_values.specs.Value.{ULong}
use Rattle.cdr_values.specs.Values.{ReadsAll}
use Rattle.cdr_values.specs.declared.order.Order.{Order}
use Rattle.cdr_values.specs.declared.order.Order.TheVariants.{Big, Little}
use Rattle.cdr_values.specs.declared.fault.CdrFault.TheVariants.{BadOrder}
use Rattle.cdr_values.specs.Encapsulation.{IsEncapsulation, opened, order_octet, inside}
use Rattle.ior_refs.specs.declared.fault.IorFault.{IorFault}
use Rattle.ior_refs.specs.Laws.{ReferencesAreReadExactly}
use Rattle.ior_refs.specs.Reading.{short_reference_at}
use Rattle.ior_refs.specs.Reference.{Reference, is_short}
use Rattle.otid_names.specs.Otid.{OtidParts}
use Rattle.ots_context.specs.declared.fault.ContextFault.{ContextFault}
use Rattle.ots_context.specs.declared.fault.ContextFault.TheVariants.{Otid}
use Rattle.ots_context.specs.declared.context.Identity.{Identity}
use Rattle.ots_context.specs.declared.context.Context.{Context}
use Rattle.ots_context.specs.declared.context.AnyTail.{AnyTail}
use Rattle.ots_context.specs.Fault.{fault_of, of_reference, too_many}
use Rattle.ots_context.specs.Identity.{Fields, otid_values, fields_values, has_lengths, allows_fields, otid_of, identity_of}
use Rattle.ots_context.specs.Reading.{otid_at, identity_at, identity_behind, parents_at, context_at, context_behind, context_in}
use Rattle.ots_context.specs.Tail.{IsTail, tail_at}
use Rattle.ots_context.specs.Context.{IsContext, StandsAsContext}
use Rattle.ots_context.specs.Laws.{ContextsAreReadExactly, ContextsStandExactly}
use Rattle.ots_context.proofs.Tails.{tail_found, tail_only}
use Rattle.ots_context.proofs.Given.{ok_is, bind_ok, guard_ok, check_ok, reads_then, reads_apart}

-- a value that is read as the context's
pub value_is : {A : Type 0} (read : Result A CdrFault) (x : A) → fault_as fault_of read ≡ Ok x → read ≡ Ok x
value_is (Ok y) x e = ap Ok (ok_is y x e)
value_is (Err fault) x e = absurd cc

-- a reference that is read as the context's
reference_is : {A : Type 0} (read : Result A IorFault) (x : A) → of_reference read ≡ Ok x → read ≡ Ok x
reference_is (Ok y) x e = ap Ok (ok_is y x e)
reference_is (Err fault) x e = absurd cc

-- an otid stands there
pub record OtidStands (r : Reading) (o : OtidParts) (behind : Reading) : Type 0 where
  pub format : ℕ
  pub bqual : ℕ
  pub tid : List ℕ
  pub is : o ≡ otid_of format bqual tid
  pub stand : ReadsAll r (otid_values format bqual tid) behind
  pub allowed : has_lengths bqual tid ≡ true

otid_found : ReadingLaws → (r : Reading) (o : OtidParts) (behind : Reading) → otid_at r ≡ Ok (o, behind) → OtidStands r o behind
unfolding otid_at
otid_found laws r o behind e =
    let a = bind_ok (fault_as fault_of (ulong_at r)) (λ format. fault_as fault_of (ulong_at format.1) >>= (λ bqual. fault_as fault_of (octets_at bqual.1) >>= (λ tid. cond (has_lengths bqual.0 tid.0) (Ok (otid_of format.0 bqual.0 tid.0, tid.1)) (Err Otid)))) (o, behind) e in
    let b = bind_ok (fault_as fault_of (ulong_at a.0.1)) (λ bqual. fault_as fault_of (octets_at bqual.1) >>= (λ tid. cond (has_lengths bqual.0 tid.0) (Ok (otid_of a.0.0 bqual.0 tid.0, tid.1)) (Err Otid))) (o, behind) a.2 in
    let t = bind_ok (fault_as fault_of (octets_at b.0.1)) (λ tid. cond (has_lengths b.0.0 tid.0) (Ok (otid_of a.0.0 b.0.0 tid.0, tid.1)) (Err Otid)) (o, behind) b.2 in
    let g = check_ok (has_lengths b.0.0 t.0.0) Otid (Ok (otid_of a.0.0 b.0.0 t.0.0, t.0.1)) (o, behind) t.2 in
    let same = ok_is {F = ContextFault} (otid_of a.0.0 b.0.0 t.0.0, t.0.1) (o, behind) g.1 in
    let one = laws.ulong.found r a.0.0 a.0.1 (value_is (ulong_at r) a.0 a.1) in
    let two = laws.ulong.found a.0.1 b.0.0 b.0.1 (value_is (ulong_at a.0.1) b.0 b.1) in
    let three = laws.octets.found b.0.1 t.0.0 t.0.1 (value_is (octets_at b.0.1) t.0 t.1) in
    let stand : ReadsAll r (otid_values a.0.0 b.0.0 t.0.0) t.0.1 = (a.0.1, one, (b.0.1, two, (t.0.1, three, refl))) in
    record {
      format = a.0.0;
      bqual = b.0.0;
      tid = t.0.0;
      is = ap (λ (p : OtidParts × Reading). p.0) (sym same);
      stand = subst (λ (s : Reading). ReadsAll r (otid_values a.0.0 b.0.0 t.0.0) s) (ap (λ (p : OtidParts × Reading). p.1) same) stand;
      allowed = g.0;
    }

otid_only : ReadingLaws → (format bqual : ℕ) (tid : List ℕ) (r behind : Reading) → ReadsAll r (otid_values format bqual tid) behind → has_lengths bqual tid ≡ true → otid_at r ≡ Ok (otid_of format bqual tid, behind)
unfolding otid_at
otid_only laws format bqual tid r behind h allowed =
    let q = h.2 in
    let t = q.2 in
    rw (laws.ulong.only r format h.0 h.1, laws.ulong.only h.0 bqual q.0 q.1, laws.octets.only q.0 tid t.0 t.1, allowed) (ap (λ (s : Reading). Ok (otid_of format bqual tid, s)) (sym t.2))

-- an identity stands there
pub record Stands (r : Reading) (i : Identity) (behind : Reading) : Type 0 where
  pub fields : Fields
  pub is : i ≡ identity_of fields
  pub stand : ReadsAll r (fields_values fields) behind
  pub allowed : allows_fields fields ≡ true

-- an identity of these parts
abbrev identity : Reference → Reference → OtidParts → Identity
identity coord term otid = record { coord = coord; term = term; otid = otid }

pub identity_found : ReferencesAreReadExactly → ReadingLaws → (r : Reading) (i : Identity) (behind : Reading) → identity_at r ≡ Ok (i, behind) → Stands r i behind
unfolding identity_at identity_behind
identity_found refs laws r i behind e =
    let a = bind_ok (of_reference (short_reference_at r)) (λ coord. of_reference (short_reference_at coord.1) >>= (λ term. otid_at term.1 >>= (λ otid. Ok (identity coord.0 term.0 otid.0, otid.1)))) (i, behind) e in
    let b = bind_ok (of_reference (short_reference_at a.0.1)) (λ term. otid_at term.1 >>= (λ otid. Ok (identity a.0.0 term.0 otid.0, otid.1))) (i, behind) a.2 in
    let o = bind_ok (otid_at b.0.1) (λ otid. Ok (identity a.0.0 b.0.0 otid.0, otid.1)) (i, behind) b.2 in
    let same = ok_is {F = ContextFault} (identity a.0.0 b.0.0 o.0.0, o.0.1) (i, behind) o.2 in
    let coord = refs.found r a.0.0 a.0.1 (reference_is (short_reference_at r) a.0 a.1) in
    let term = refs.found a.0.1 b.0.0 b.0.1 (reference_is (short_reference_at a.0.1) b.0 b.1) in
    let otid = otid_found laws b.0.1 o.0.0 o.0.1 o.1 in
    let f : Fields = record { coord = a.0.0; term = b.0.0; format = otid.format; bqual = otid.bqual; tid = otid.tid } in
    let stand : ReadsAll r (fields_values f) o.0.1 =
    reads_then (reference_values f.coord) (reference_values f.term ++ otid_values f.format f.bqual f.tid) r a.0.1 o.0.1 coord.0
    (reads_then (reference_values f.term) (otid_values f.format f.bqual f.tid) a.0.1 b.0.1 o.0.1 term.0 otid.stand) in
    let allowed : allows_fields f ≡ true = rw (coord.1, term.1, otid.allowed) refl in
    record {
      fields = f;
      is = ap (λ (p : Identity × Reading). p.0) (sym same) ∙ ap (identity a.0.0 b.0.0) otid.is;
      stand = subst (λ (s : Reading). ReadsAll r (fields_values f) s) (ap (λ (p : Identity × Reading). p.1) same) stand;
      allowed = allowed;
    }

pub identity_only : ReferencesAreReadExactly → ReadingLaws → (f : Fields) (r behind : Reading) → ReadsAll r (fields_values f) behind → allows_fields f ≡ true → identity_at r ≡ Ok (identity_of f, behind)
unfolding identity_at identity_behind
identity_only refs laws f r behind h allowed =
    let both = and_parts (is_short f.coord) (is_short f.term && has_lengths f.bqual f.tid) allowed in
    let two = and_parts (is_short f.term) (has_lengths f.bqual f.tid) both.1 in
    let p = reads_apart (reference_values f.coord) (reference_values f.term ++ otid_values f.format f.bqual f.tid) r behind h in
    let q = reads_apart (reference_values f.term) (otid_values f.format f.bqual f.tid) p.0 behind p.2 in
    rw (refs.only r f.coord p.0 p.1 both.0, refs.only p.0 f.term q.0 q.1 two.0, otid_only laws f.format f.bqual f.tid q.0 behind q.2 two.1) refl

-- identities stand there, one after another
pub record AllStand (n : ℕ) (r : Reading) (all : List Identity) (behind : Reading) : Type 0 where
  pub fields : List Fields
  pub are : all ≡ map identity_of fields
  pub stand : ReadsAll r (flat_map fields_values fields) behind
  pub allowed : list_all allows_fields fields ≡ true
  pub count : length fields ≡ n

each_found : ReferencesAreReadExactly → ReadingLaws → (n : ℕ) (r : Reading) (all : List Identity) (behind : Reading) → each_at identity_at n r ≡ Ok (all, behind) → AllStand n r all behind
unfolding each_at
each_found refs laws zero r all behind e =
    let same = ok_is {F = ContextFault} ([], r) (all, behind) e in
    record {
      fields = [];
      are = ap (λ (p : List Identity × Reading). p.0) (sym same);
      stand = ap (λ (p : List Identity × Reading). p.1) (sym same);
      allowed = refl;
      count = refl;
    }
each_found refs laws (suc n) r all behind e =
    let a = bind_ok (identity_at r) (λ first. each_at identity_at n first.1 >>= (λ others. Ok (first.0 ∷ others.0, others.1))) (all, behind) e in
    let b = bind_ok (each_at identity_at n a.0.1) (λ others. Ok (a.0.0 ∷ others.0, others.1)) (all, behind) a.2 in
    let same = ok_is {F = ContextFault} (a.0.0 ∷ b.0.0, b.0.1) (all, behind) b.2 in
    let one = identity_found refs laws r a.0.0 a.0.1 a.1 in
    let more = each_found refs laws n a.0.1 b.0.0 b.0.1 b.1 in
    let stand : ReadsAll r (flat_map fields_values (one.fields ∷ more.fields)) b.0.1 = reads_then (fields_values one.fields) (flat_map fields_values more.fields) r a.0.1 b.0.1 one.stand more.stand in
    let allowed : list_all allows_fields (one.fields ∷ more.fields) ≡ true = rw (one.allowed, more.allowed) refl in
    record {
      fields = one.fields ∷ more.fields;
      are = ap (λ (p : List Identity × Reading). p.0) (sym same) ∙ ap (λ (i : Identity). i ∷ b.0.0) one.is ∙ ap (λ (xs : List Identity). identity_of one.fields ∷ xs) more.are;
      stand = subst (λ (s : Reading). ReadsAll r (flat_map fields_values (one.fields ∷ more.fields)) s) (ap (λ (p : List Identity × Reading). p.1) same) stand;
      allowed = allowed;
      count = ap suc more.count;
    }

each_only : ReferencesAreReadExactly → ReadingLaws → (fs : List Fields) (r behind : Reading) → ReadsAll r (flat_map fields_values fs) behind → list_all allows_fields fs ≡ true → each_at identity_at (length fs) r ≡ Ok (map identity_of fs, behind)
unfolding each_at
each_only refs laws [] r behind h all = ap (λ (s : Reading). Ok ([], s)) (sym h)
each_only refs laws (f ∷ fs) r behind h all =
    let both = and_parts (allows_fields f) (list_all allows_fields fs) all in
    let p = reads_apart (fields_values f) (flat_map fields_values fs) r behind h in
    rw (identity_only refs laws f r p.0 p.1 both.0, each_only refs laws fs p.0 behind p.2 both.1) refl

-- the parents stand there
pub record ParentsStand (r : Reading) (all : List Identity) (behind : Reading) : Type 0 where
  pub fields : List Fields
  pub are : all ≡ map identity_of fields
  pub stand : ReadsAll r (sequence_values fields_values fields) behind
  pub allowed : list_all allows_fields fields ≡ true
  pub few : length fields ≤ 16

pub parents_found : ReferencesAreReadExactly → ReadingLaws → (r : Reading) (all : List Identity) (behind : Reading) → parents_at r ≡ Ok (all, behind) → ParentsStand r all behind
unfolding parents_at sequence_at
parents_found refs laws r all behind e =
    let c = bind_ok (fault_as fault_of (ulong_at r)) (λ count. cond (ltb 16 count.0) (Err (too_many r.place count.0)) (each_at identity_at count.0 count.1)) (all, behind) e in
    let n = c.0.0 in
    let q = guard_ok (ltb 16 n) (too_many r.place n) (each_at identity_at n c.0.1) (all, behind) c.2 in
    let each = each_found refs laws n c.0.1 all behind q.1 in
    let counted = laws.ulong.found r n c.0.1 (value_is (ulong_at r) c.0 c.1) in
    let is : n ≡ length each.fields = sym each.count in
    record {
      fields = each.fields;
      are = each.are;
      stand = (c.0.1, subst (λ (k : ℕ). Reads r (ULong k) c.0.1) is counted, each.stand);
      allowed = each.allowed;
      few = omega (arith, each.count, ltb-false _ _ q.0);
    }

pub parents_only : ReferencesAreReadExactly → ReadingLaws → (fs : List Fields) (r behind : Reading) → ReadsAll r (sequence_values fields_values fs) behind → list_all allows_fields fs ≡ true → length fs ≤ 16 → parents_at r ≡ Ok (map identity_of fs, behind)
unfolding parents_at sequence_at
parents_only refs laws fs r behind h all few =
    let in_limit : ltb 16 (length fs) ≡ false = le-ltb 16 (length fs) few in
    rw (laws.ulong.only r (length fs) h.0 h.1, in_limit) (each_only refs laws fs h.0 behind h.2 all)

-- ---- the whole

octet_is : (n m : ℕ) → eqb n m ≡ true → n ≡ m
octet_is n m e = grind arith

-- an encapsulation whose first octet is an order
begins : (first : ℕ) (octets : List ℕ) (order : Order) (r : Reading) → first ≡ order_octet order → inside order octets ≡ r → IsEncapsulation (first ∷ octets) r
begins first octets order r is same =
    subst (λ (s : Reading). IsEncapsulation (first ∷ octets) s) same (record { parts = ap (λ (n : ℕ). n ∷ octets) is; place = refl })

opens : (first : ℕ) (octets : List ℕ) (r : Reading) (b d : Bool) → eqb first 0 ≡ b → eqb first 1 ≡ d → cond b (Ok (inside Big octets)) (cond d (Ok (inside Little octets)) (Err (BadOrder 0))) ≡ Ok r → IsEncapsulation (first ∷ octets) r
opens first octets r true d e f h = begins first octets Big r (octet_is first 0 e) (ok_is {F = CdrFault} (inside Big octets) r h)
opens first octets r false true e f h = begins first octets Little r (octet_is first 1 f) (ok_is {F = CdrFault} (inside Little octets) r h)
opens first octets r false false e f h = absurd cc

pub opened_found : (octets : List ℕ) (r : Reading) → opened octets ≡ Ok r → IsEncapsulation octets r
opened_found [] r e = absurd cc
opened_found (first ∷ octets) r e = opens first octets r (eqb first 0) (eqb first 1) refl refl e

opened_inside : (order : Order) (octets : List ℕ) → opened (order_octet order ∷ octets) ≡ Ok (inside order octets)
opened_inside Big octets = refl
opened_inside Little octets = refl

-- a reading of these parts
abbrev reading : Order → List ℕ → ℕ → Reading
reading order rest place = record { order = order; place = place; rest = rest }

pub opened_only : (octets : List ℕ) (r : Reading) → IsEncapsulation octets r → opened octets ≡ Ok r
opened_only octets r h =
    ap opened h.parts ∙ opened_inside r.order r.rest ∙ ap (λ (n : ℕ). Ok (reading r.order r.rest n)) (sym h.place)

-- a context of these parts
abbrev context : ℕ → Identity → List Identity → AnyTail → Context
context timeout current parents tail = record { timeout = timeout; current = current; parents = parents; tail = tail }

context_at_found : ReferencesAreReadExactly → ReadingLaws → (reader : Reading) (c : Context) → context_at reader ≡ Ok c → StandsAsContext c reader
unfolding context_at context_behind
context_at_found refs laws reader c e =
    let t = bind_ok (fault_as fault_of (ulong_at reader)) (λ timeout. identity_at timeout.1 >>= (λ current. parents_at current.1 >>= (λ parents. Ok (context timeout.0 current.0 parents.0 (tail_at parents.1))))) c e in
    let i = bind_ok (identity_at t.0.1) (λ current. parents_at current.1 >>= (λ parents. Ok (context t.0.0 current.0 parents.0 (tail_at parents.1)))) c t.2 in
    let p = bind_ok (parents_at i.0.1) (λ parents. Ok (context t.0.0 i.0.0 parents.0 (tail_at parents.1))) c i.2 in
    let behind = p.0.1 in
    let same = ok_is {F = ContextFault} (context t.0.0 i.0.0 p.0.0 (tail_at behind)) c p.2 in
    let timeout = laws.ulong.found reader t.0.0 t.0.1 (value_is (ulong_at reader) t.0 t.1) in
    let current = identity_found refs laws t.0.1 i.0.0 i.0.1 i.1 in
    let parents = parents_found refs laws i.0.1 p.0.0 behind p.1 in
    let rest = reads_then (fields_values current.fields) (sequence_values fields_values parents.fields) t.0.1 i.0.1 behind current.stand parents.stand in
    record {
      current = current.fields;
      parents = parents.fields;
      is_current = ap (λ (x : Context). x.current) (sym same) ∙ current.is;
      are_parents = ap (λ (x : Context). x.parents) (sym same) ∙ parents.are;
      current_allowed = current.allowed;
      parents_allowed = parents.allowed;
      few = parents.few;
      behind = behind;
      stand = subst (λ (n : ℕ). ReadsAll reader (ULong n ∷ (fields_values current.fields ++ sequence_values fields_values parents.fields)) behind) (ap (λ (x : Context). x.timeout) same) (t.0.1, timeout, rest);
      tail = subst (λ (x : AnyTail). IsTail x behind) (ap (λ (x : Context). x.tail) same) (tail_found laws behind);
    }

context_found : ReferencesAreReadExactly → ReadingLaws → (octets : List ℕ) (c : Context) → context_in octets ≡ Ok c → IsContext c octets
unfolding context_in
context_found refs laws octets c e =
    let a = bind_ok (fault_as fault_of (opened octets)) (λ reader. context_at reader) c e in
    record {
      reader = a.0;
      opened = opened_found octets a.0 (value_is (opened octets) a.0 a.1);
      stands = context_at_found refs laws a.0 c a.2;
    }

-- a context stands there, which is all that is left
pub context_at_only : ReferencesAreReadExactly → ReadingLaws → (c : Context) (current : Fields) (parents : List Fields) (reader behind : Reading) → c.current ≡ identity_of current → c.parents ≡ map identity_of parents → allows_fields current ≡ true → list_all allows_fields parents ≡ true → length parents ≤ 16
    → ReadsAll reader (ULong c.timeout ∷ (fields_values current ++ sequence_values fields_values parents)) behind → IsTail c.tail behind → context_at reader ≡ Ok c
unfolding context_at context_behind
context_at_only refs laws c current parents reader behind is are allowed all few s tail =
    let p = reads_apart (fields_values current) (sequence_values fields_values parents) s.0 behind s.2 in
    rw (laws.ulong.only reader c.timeout s.0 s.1, identity_only refs laws current s.0 p.0 p.1 allowed, parents_only refs laws parents p.0 behind p.2 all few, tail_only laws c.tail behind tail)
    (ap (λ (x : Identity). Ok (context c.timeout x (map identity_of parents) c.tail)) (sym is) ∙ ap (λ (xs : List Identity). Ok (context c.timeout c.current xs c.tail)) (sym are))

context_stood : ReferencesAreReadExactly → ReadingLaws → (reader : Reading) (c : Context) → StandsAsContext c reader → context_at reader ≡ Ok c
context_stood refs laws reader c h =
    context_at_only refs laws c h.current h.parents reader h.behind h.is_current h.are_parents h.current_allowed h.parents_allowed h.few h.stand h.tail

pub contexts_stand : ReferencesAreReadExactly → ReadingLaws → ContextsStandExactly
contexts_stand refs laws reader c = (context_at_found refs laws reader c, context_stood refs laws reader c)

pub context_only : ReferencesAreReadExactly → ReadingLaws → (octets : List ℕ) (c : Context) → IsContext c octets → context_in octets ≡ Ok c
unfolding context_in
context_only refs laws octets c h =
    rw (opened_only octets h.reader h.opened) (context_stood refs laws h.reader c h.stands)

pub contexts_exact : ReferencesAreReadExactly → ReadingLaws → ContextsAreReadExactly
contexts_exact refs laws octets c = (context_found refs laws octets c, context_only refs laws octets c)
