-- A stage moves the cursors of both its rings by as many samples as it is given. Assumes nothing.
use native.Mathlib.Omega.{arith}
use native.Mathlib.Nat.{add-zero, add_assoc, mod-lt, mod-eq_of_lt, mod-add-mod}
use Prim.Native.Nat.{ℕ, zero, suc, ◌+◌, ◌*◌, ◌%◌, ◌<◌}
use mathlib.Core.Path.{◌≡◌, refl, sym, ap, ◌∙◌}
use mathlib.Core.List.{List}
use lib.Ieee.{Float}
use lib.ListN.{length, drop}
use Rattle.delay.specs.declared.Cursors.{Cursors}
use Rattle.delay.specs.Ring.{four_of}
use Rattle.delay.specs.Calls.{read_to, write_to, get4_answer, put4_answer}
use Rattle.delay.proofs.Laws.{Ready, ready_read, ready_write, judged_ok, ok_judged, ahead-mod}
use Rattle.allpass.specs.Passes.{stage_end, pass_end}
use Rattle.allpass.proofs.Stages.{pass_rings}
use Rattle.stages.specs.Settle.{moved_by, PassMoved}

module _ (l : ℕ) (c : Cursors) (r : Ready l c) where
  moved_none : moved_by 0 l c ≡ c
  moved_none = rw (add-zero, add-zero, mod-eq_of_lt r.reads, mod-eq_of_lt r.writes) refl

  moved_on : (m n : ℕ) → moved_by n l (moved_by m l c) ≡ moved_by (m + n) l c
  moved_on m n = rw (mod-add-mod, mod-add-mod, add_assoc, add_assoc) refl

  pub moved_ready : (n : ℕ) → Ready l (moved_by n l c)
  moved_ready n =
      let some : 0 < l = omega (arith, r.some) in
      ready_write (ready_read r (mod-lt (c.read.0 + n) some)) (mod-lt (c.write.0 + n) some)

-- a get4 and a put4
four-moved : (ring : List Float) (c : Cursors) → Ready (length ring) c
    → (put4_answer (length ring) (get4_answer ring c).cursors).cursors ≡ moved_by 4 (length ring) c
four-moved ring c r =
    let l = length ring in
    let k = (c.read.0 + 4) % l in
    let got : (get4_answer ring c).cursors ≡ read_to c k = rw (ok_judged l c r) (ap (read_to c) (ahead-mod l 4 c.read.0 r.reads)) in
    let ready = ready_read r (mod-lt (c.read.0 + 4) (omega (arith, r.some))) in
    rw (got, ok_judged l (read_to c k) ready) (ap (write_to (read_to c k)) (ahead-mod l 4 c.write.0 r.writes))

-- such cursors are within a ring as long as the first, and n fours more move them on
module _ {l l' : ℕ} {c c' : Cursors} (r : Ready l c) (el : l' ≡ l) (ec : c' ≡ moved_by 4 l c) where
  next_ready : Ready l' c'
  next_ready = rw (el, ec) (moved_ready l c r 4)

  next_moved : (n : ℕ) → moved_by (4 * n) l' c' ≡ moved_by (4 * suc n) l c
  next_moved n =
      let e : 4 + 4 * n ≡ 4 * suc n = omega arith in
      rw (el, ec, moved_on l c r 4 (4 * n), e) refl

pub pass-moved : PassMoved
unfolding pass_end
pass-moved zero s row x y = (sym (moved_none _ _ (judged_ok _ _ x)), sym (moved_none _ _ (judged_ok _ _ y)))
pass-moved (suc n) s row x y =
    let rx = judged_ok (length s.x) s.xs x in
    let ry = judged_ok (length s.y) s.ys y in
    let l = pass_rings 1 s row in
    let mx = four-moved s.x s.xs rx in
    let my = four-moved s.y s.ys ry in
    let next = stage_end s (four_of row) in
    let rest = pass-moved n next (drop 4 row) (ok_judged _ _ (next_ready rx l.x mx)) (ok_judged _ _ (next_ready ry l.y my)) in
    (rest.0 ∙ next_moved rx l.x mx n, rest.1 ∙ next_moved ry l.y my n)
