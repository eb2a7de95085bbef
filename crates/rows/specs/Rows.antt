-- R1.22: how the work memory of a frame lies.
use Rattle.std.specs.Prelude.{ℕ, ◌*◌, List, ◌++◌, Float, take, drop}
use Rattle.unit.specs.Layout.{places_of}

-- the work memory: the input, the rows read, the rows mixed, which become those to put (R1.23), the output and the allpass rings
pub record Rows : Type 0 where
  pub input : List Float
  pub reads : List Float
  pub mixed : List Float
  pub output : List Float
  pub rings : List Float

-- the work memory of n lines and a frame of f cut so
unfoldable pub rows_of : ℕ → ℕ → List Float → Rows
rows_of n f work = record {
  input = take f work;
  reads = take (n * f) (drop (places_of n f).reads work);
  mixed = take (n * f) (drop (places_of n f).mixed work);
  output = take f (drop (places_of n f).output work);
  rings = drop (places_of n f).rings work;
}

-- and joined again
unfoldable pub joined_rows : Rows → List Float
joined_rows r = r.input ++ (r.reads ++ (r.mixed ++ (r.output ++ r.rings)))

-- the work memory with these parts
abbrev pub laid : List Float → List Float → List Float → List Float → List Float → List Float
laid input reads mixed output rings =
    joined_rows (record { input = input; reads = reads; mixed = mixed; output = output; rings = rings })
