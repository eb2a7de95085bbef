-- The laws of the walk over a file's chunks: where it is when bytes were skipped, what it does at one chunk, to which places it comes, and why
-- it ends where it does. Assumes nothing.
use Rattle.std.specs.Prelude.{Option, Some, None, Ok, Err}
use Rattle.wave.specs.declared.WaveFormat.{WaveFormat}
use mathlib.Core.Path.{◌≡◌, refl, sym, ap, ◌∙◌, subst}
use mathlib.Core.Bool.{Bool, true, false, cond, ◌&&◌}
use mathlib.Core.Logic.{inl, inr}
use mathlib.Core.List.{List, [], ◌∷◌}
use Prim.Native.Nat.{ℕ, zero, suc, ◌+◌, ◌-◌, ◌%◌, ◌≤◌, ◌<◌}
use native.Mathlib.Nat.{add-zero, add-suc, suc-add}
use native.Mathlib.Omega.{arith}
use lib.Dec.{leb, eqb}
use lib.ListN.{length, drop, length-drop}
use lib.Seq.{drop-drop}
use borrow.Author.Tests.{leb-true, leb-false, le-leb, lt-leb, eqb-true, eqb-false, eq-eqb, ne_eqb}
use Rattle.samples.specs.Answers.{need}
use Rattle.samples.proofs.Laws.{split_and}
use Rattle.wave.specs.declared.Take.{Take}
use Rattle.wave.specs.declared.ReadRefusal.{ReadRefusal}
use Rattle.wave.specs.declared.ReadRefusal.TheVariants.{TooLong, NotWave, PastEnd, NoFormat, NoData, Unsupported}
use Rattle.wave.specs.Chunks.{begins, format_name, data_name, number_at, size_of, complete, span_of, format_of, tag_ok, supported, is_first, let_by, met_after, block_of}
use Rattle.wave.specs.Reading.{Reading, data_read, walk}
use Rattle.wave.specs.Promises.{Over, Come, AtData, BadData, BadFormat, Ends}

-- a refusal, as what is read
abbrev refused : ReadRefusal → Reading
refused why = Err why

-- ---- chunks

-- all of a chunk's bytes are there
pub complete_room : (chunk : List ℕ) → complete chunk ≡ true → 8 + size_of chunk ≤ length chunk
unfolding complete
complete_room chunk e = leb-true (8 + size_of chunk) (length chunk) e

-- what a supported format has
pub record Supported (chunk : List ℕ) : Type 0 where
  pub room : 16 ≤ size_of chunk
  pub channels : 1 ≤ (format_of chunk).channels

pub supported_has : (chunk : List ℕ) → supported chunk ≡ true → Supported chunk
unfolding supported
supported_has chunk e =
    let f = format_of chunk in
    let tag = tag_ok f.tag (number_at 2 22 chunk) in
    let p = split_and (leb 16 (size_of chunk)) (leb 1 f.channels && leb f.channels 16 && tag) e in
    let q = split_and (leb 1 f.channels && leb f.channels 16) tag p.1 in
    let r = split_and (leb 1 f.channels) (leb f.channels 16) q.0 in
    record { room = leb-true 16 (size_of chunk) p.0; channels = leb-true 1 f.channels r.0 }

-- a first format is named so, and is no data
first_named : (met : Option WaveFormat) (chunk : List ℕ) → is_first met chunk ≡ true → begins format_name chunk ≡ true
first_named None chunk e = e
first_named (Some f) chunk e = cc

not_data : (chunk : List ℕ) → begins format_name chunk ≡ true → begins data_name chunk ≡ false
not_data [] e = refl
not_data (b ∷ bytes) e = let p = split_and (eqb b 102) _ e in rw (eqb-true b 102 p.0) refl

-- ---- one chunk

-- to skip bytes is to be that much further on
pub walk_at : (skip at : ℕ) (met : Option WaveFormat) (bytes : List ℕ) → walk skip met at bytes ≡ walk 0 met (at + skip) (drop skip bytes)
unfolding walk
walk_at zero at met bytes = ap (λ (n : ℕ). walk 0 met n bytes) (sym (add-zero at))
walk_at (suc skip) at met [] = refl
walk_at (suc skip) at met (b ∷ bytes) =
    walk_at skip (suc at) met bytes ∙ ap (λ (n : ℕ). walk 0 met n (drop skip bytes)) (suc-add at skip ∙ sym (add-suc at skip))

-- what is read from a chunk on, given what is read behind it
abbrev turn_of : Option WaveFormat → ℕ → List ℕ → Reading → Reading
turn_of met at chunk on =
    need (leb 8 (length chunk)) (Err NoData)
    (need (complete chunk) (Err (PastEnd at))
    (cond (begins data_name chunk) (data_read met at (size_of chunk)) (need (let_by met chunk) (Err (Unsupported at)) on)))

turn_at : (met : Option WaveFormat) (at : ℕ) (chunk : List ℕ)
    → walk 0 met at chunk ≡ turn_of met at chunk (walk 0 (met_after met chunk) (at + span_of chunk) (drop (span_of chunk) chunk))
unfolding walk
turn_at met at [] = refl
turn_at met at (b ∷ bytes) =
    let chunk = b ∷ bytes in
    let k = span_of chunk - 1 in
    let there : suc at + k ≡ at + span_of chunk = omega arith in
    let one : suc k ≡ span_of chunk = omega arith in
    ap (turn_of met at chunk)
    (walk_at k (suc at) (met_after met chunk) bytes ∙ (λ i. walk 0 (met_after met chunk) (there i) (drop (one i) chunk)))

module _ (file : List ℕ) where
  -- the walk from a place in the file on
  abbrev from : Option WaveFormat → ℕ → Reading
  from met at = walk 0 met at (drop at file)

  pub turn : (met : Option WaveFormat) (at : ℕ)
      → from met at ≡ turn_of met at (drop at file) (from (met_after met (drop at file)) (at + span_of (drop at file)))
  turn met at =
      let chunk = drop at file in
      turn_at met at chunk
      ∙ ap (λ (l : List ℕ). turn_of met at chunk (walk 0 (met_after met chunk) (at + span_of chunk) l)) (drop-drop (span_of chunk) at file)

  -- a chunk that is all there passes the first two tests
  module _ (at : ℕ) (room : at + (8 + size_of (drop at file)) ≤ length file) where
    long : leb 8 (length (drop at file)) ≡ true
    long = le-leb 8 (length (drop at file)) (omega (arith, length-drop at file))

    whole : complete (drop at file) ≡ true
    unfolding complete
    whole = le-leb (8 + size_of (drop at file)) (length (drop at file)) (omega (arith, length-drop at file))

  -- ---- to which places it comes

  pub come_far : (k at : ℕ) (met : Option WaveFormat) → Come file k at met → 12 ≤ at
  come_far zero at met (e, m) = omega arith
  come_far (suc k) at met (before, m, (c, o)) = omega (arith, come_far k before m c, o.on)

  over-walk : (at next : ℕ) (met after : Option WaveFormat) → Over file at met next after → from met at ≡ from after next
  over-walk at next met after o =
      let chunk = drop at file in
      turn met at
      ∙ (λ i. need (long at o.room i) (Err NoData)
      (need (whole at o.room i) (Err (PastEnd at))
      (cond (o.other i) (data_read met at (size_of chunk))
      (need (o.right i) (Err (Unsupported at)) (from (sym o.format i) (sym o.on i))))))

  -- it goes on from every place to which it comes
  pub come_walk : (k at : ℕ) (met : Option WaveFormat) → Come file k at met → from None 12 ≡ from met at
  come_walk zero at met (e, m) = λ i. from (sym m i) (sym e i)
  come_walk (suc k) at met (before, m, (c, o)) = come_walk k before m c ∙ over-walk before at m met o

  -- and takes the data there
  data_walk : (at : ℕ) (t : Take) → Ends file at (Some t.format) (Ok t) → from (Some t.format) at ≡ Ok t
  data_walk at t (d, (f, (first, (len, blocks)))) =
      let chunk = drop at file in
      let own = t.format in
      let even = ap (λ (n : ℕ). eqb (n % block_of own) 0) (sym len) ∙ eq-eqb (t.len % block_of own) 0 blocks in
      let on = from (Some own) (at + span_of chunk) in
      turn (Some own) at
      ∙ (λ i. need (long at d.room i) (Err NoData)
      (need (whole at d.room i) (Err (PastEnd at)) (cond (d.named i) (data_read (Some own) at (size_of chunk)) on)))
      ∙ (λ i. need (even i) (Err (Unsupported at)) (Ok (record { format = own; first = sym first i; len = sym len i })))

  -- whatever the reason is, it is what is read there
  module _ (at : ℕ) (met : Option WaveFormat) where
    cut_off : length file < at + (8 + size_of (drop at file)) → complete (drop at file) ≡ false
    unfolding complete
    cut_off h = lt-leb (8 + size_of (drop at file)) (length (drop at file)) (omega (arith, length-drop at file))

    bad_data : BadData file at met → from met at ≡ Err (Unsupported at)
    bad_data b =
        let d = b.header in
        rw b.format
        (turn (Some b.own) at
        ∙ rw (long at d.room, whole at d.room, d.named, ne_eqb (size_of (drop at file) % block_of b.own) 0 b.parts) refl)

    bad_format_lem : BadFormat file at met → from met at ≡ Err (Unsupported at)
    bad_format_lem b =
        let chunk = drop at file in
        let judged : let_by met chunk ≡ false = λ i. cond (b.first i) (b.wrong i) true in
        turn met at ∙ rw (long at b.room, whole at b.room, not_data chunk (first_named met chunk b.first), judged) refl

    pub ends-walk : (r : Reading) → Ends file at met r → from met at ≡ r
    ends-walk (Err TooLong) e = absurd e
    ends-walk (Err NotWave) e = absurd e
    ends-walk (Ok t) (d, (f, rest)) = rw f (data_walk at t (d, (refl, rest)))
    ends-walk (Err (PastEnd place)) (e, (h, cut)) =
        turn met at ∙ rw (le-leb 8 (length (drop at file)) (omega (arith, length-drop at file)), cut_off cut) (ap (λ (n : ℕ). refused (PastEnd n)) (sym e))
    ends-walk (Err (NoFormat place)) (e, (d, m)) = rw m (turn None at ∙ rw (long at d.room, whole at d.room, d.named) (ap (λ (n : ℕ). refused (NoFormat n)) (sym e)))
    ends-walk (Err NoData) h = turn met at ∙ rw (lt-leb 8 (length (drop at file)) (omega (arith, length-drop at file))) refl
    ends-walk (Err (Unsupported place)) (e, inl b) = bad_data b ∙ ap (λ (n : ℕ). refused (Unsupported n)) (sym e)
    ends-walk (Err (Unsupported place)) (e, inr b) = bad_format_lem b ∙ ap (λ (n : ℕ). refused (Unsupported n)) (sym e)

  -- ---- why it ends

  -- at a place to which it comes, for a reason
  abbrev pub Ended : Reading → Type 0
  Ended r = (k : ℕ) × (at : ℕ) × (met : Option WaveFormat) × (Come file k at met × Ends file at met r)

  -- the tests one by one, where the walk has come to a place and ends well if it goes on
  module _ (k at : ℕ) (met : Option WaveFormat) (come : Come file k at met) where
    abbrev chunk : List ℕ
    chunk = drop at file

    -- what is read if it goes on, if it isn't the data, and if it is all there
    abbrev next : Reading
    next = from (met_after met chunk) (at + span_of chunk)

    abbrev judged : Reading
    judged = need (let_by met chunk) (Err (Unsupported at)) next

    abbrev looked : Reading
    looked = cond (begins data_name chunk) (data_read met at (size_of chunk)) judged

    end_data : (met : Option WaveFormat) → Come file k at met → AtData file at → Ended (data_read met at (size_of chunk))
    end_data None come d = (k, at, None, (come, (refl, (d, refl))))
    end_data (Some f) come d = go (eqb (size_of chunk % block_of f) 0) refl
      where
        go : (t : Bool) → eqb (size_of chunk % block_of f) 0 ≡ t
            → Ended (need t (Err (Unsupported at)) (Ok (record { format = f; first = at + 8; len = size_of chunk })))
        go true e = (k, at, Some f, (come, (d, (refl, (refl, (refl, eqb-true (size_of chunk % block_of f) 0 e))))))
        go false e =
            (k, at, Some f, (come, (refl, inl (record { header = d; own = f; format = refl; parts = eqb-false (size_of chunk % block_of f) 0 e }))))

    module _ (on : Over file at met (at + span_of chunk) (met_after met chunk) → Ended next) where
      end_other : at + (8 + size_of chunk) ≤ length file → begins data_name chunk ≡ false → Ended judged
      end_other room other = go (is_first met chunk) (supported chunk) refl refl
        where
          over : let_by met chunk ≡ true → Ended next
          over right = on (record { room = room; other = other; right = right; on = refl; format = refl })

          go : (first right : Bool) → is_first met chunk ≡ first → supported chunk ≡ right → Ended (need (cond first right true) (Err (Unsupported at)) next)
          go false right f r = over (ap (λ (t : Bool). cond t (supported chunk) true) f)
          go true true f r = over (λ i. cond (f i) (r i) true)
          go true false f r = (k, at, met, (come, (refl, inr (record { room = room; first = f; wrong = r }))))

      end_turn : Ended (from met at)
      unfolding complete
      end_turn = subst Ended (sym (turn met at)) (short (leb 8 (length chunk)) refl)
        where
          named : at + (8 + size_of chunk) ≤ length file → (t : Bool) → begins data_name chunk ≡ t
              → Ended (cond t (data_read met at (size_of chunk)) judged)
          named room true e = end_data met come (record { room = room; named = e })
          named room false e = end_other room e

          there : at + 8 ≤ length file → (t : Bool) → complete chunk ≡ t
              → Ended (need t (Err (PastEnd at)) looked)
          there h true e = named (omega (arith, complete_room chunk e, length-drop at file)) (begins data_name chunk) refl
          there h false e = (k, at, met, (come, (refl, (h, omega (arith, leb-false (8 + size_of chunk) (length chunk) e, length-drop at file)))))

          short : (t : Bool) → leb 8 (length chunk) ≡ t
              → Ended (need t (Err NoData) (need (complete chunk) (Err (PastEnd at)) looked))
          short true e = there (omega (arith, leb-true 8 (length chunk) e, length-drop at file)) (complete chunk) refl
          short false e = (k, at, met, (come, omega (arith, leb-false 8 (length chunk) e, length-drop at file)))

  -- each chunk takes from what is left
  pub ends : (left k at : ℕ) (met : Option WaveFormat) → length file ≤ at + left → Come file k at met → Ended (from met at)
  ends zero k at met h come = end_turn k at met come (λ o. absurd (omega (arith, o.room)))
  ends (suc left) k at met h come =
      let chunk = drop at file in
      end_turn k at met come (λ o. ends left (suc k) (at + span_of chunk) (met_after met chunk) (omega arith) (at, met, (come, o)))
