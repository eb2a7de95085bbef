-- What private workers cite: what they ask of a work memory, and the filters of four lines.
use Rattle.std.specs.Prelude.{ℕ, ◌+◌, ◌*◌, ◌%◌, ◌<◌, ◌≤◌, ◌≡◌, List, [], ◌∷◌, ◌++◌}
use Rattle.samples.specs.Sizes.{longest_frame}
use Rattle.iir.specs.declared.Filter.{Filter}
use Rattle.iir.specs.declared.Bands.{Bands}
use Rattle.unit.specs.Layout.{Model, total, places_of, bands_len}
use Rattle.stages.specs.Lines.{three, three_of}

-- a work memory is one of frames of f samples
pub record WorkFits (m : Model) (f work : ℕ) : Type 0 where
  pub some : 0 < f
  pub short : f ≤ longest_frame
  pub fours : f % 4 ≡ 0
  pub work_is : work ≡ (places_of m.lines f).rings + total m.pass_lengths

-- the bands of four lines: the twelve filters from k on, three a line
abbrev pub four_from : ℕ → List Filter → List Bands
four_from k fs = three k fs ∷ three (k + bands_len) fs ∷ three (k + 2 * bands_len) fs ∷ three (k + 3 * bands_len) fs ∷ []

-- the filters of lines in their order
abbrev pub threes_of : List Bands → List Filter
threes_of [] = []
threes_of (b ∷ bs) = three_of b ++ threes_of bs
