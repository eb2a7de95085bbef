-- A filter of each of four lines, its numbers by kind.
use Rattle.std.specs.Prelude.{ℕ}
use Rattle.samples.specs.Binary32.{◌⊕◌, ◌⊖◌, ◌⊗◌}
use Rattle.iir.specs.declared.Filter.{Filter}
use Rattle.lanes.specs.declared.four.Four.{Four}
use Rattle.lanes.specs.declared.lanes.Lanes.{Lanes}
use Rattle.lanes.specs.Four.{beside, at, lanewise}

-- four filters side by side
unfoldable pub packed : Filter → Filter → Filter → Filter → Lanes
packed f g h k =
    record {
      a1 = beside f.a1 g.a1 h.a1 k.a1;
      a2 = beside f.a2 g.a2 h.a2 k.a2;
      b0 = beside f.b0 g.b0 h.b0 k.b0;
      b1 = beside f.b1 g.b1 h.b1 k.b1;
      b2 = beside f.b2 g.b2 h.b2 k.b2;
      x1 = beside f.x1 g.x1 h.x1 k.x1;
      x2 = beside f.x2 g.x2 h.x2 k.x2;
      y1 = beside f.y1 g.y1 h.y1 k.y1;
      y2 = beside f.y2 g.y2 h.y2 k.y2;
    }

-- line k's filter
unfoldable pub lane : ℕ → Lanes → Filter
lane k l =
    record {
      a1 = at k l.a1;
      a2 = at k l.a2;
      b0 = at k l.b0;
      b1 = at k l.b1;
      b2 = at k l.b2;
      x1 = at k l.x1;
      x2 = at k l.x2;
      y1 = at k l.y1;
      y2 = at k l.y2;
    }

-- R3.21, R3.22: each line's filter after one sample
unfoldable pub step_all : Lanes → Four → Lanes
step_all l x =
    let ins = lanewise ◌⊕◌ (lanewise ◌⊕◌ (lanewise ◌⊗◌ l.b0 x) (lanewise ◌⊗◌ l.b1 l.x1)) (lanewise ◌⊗◌ l.b2 l.x2) in
    let out = lanewise ◌⊖◌ (lanewise ◌⊖◌ ins (lanewise ◌⊗◌ l.a1 l.y1)) (lanewise ◌⊗◌ l.a2 l.y2) in
    record { a1 = l.a1; a2 = l.a2; b0 = l.b0; b1 = l.b1; b2 = l.b2; x1 = x; x2 = l.x1; y1 = out; y2 = l.y1 }
