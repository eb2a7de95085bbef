-- Runs of the filter over a row of samples.
use Rattle.std.specs.Prelude.{List, [], ◌∷◌, Float}
use Rattle.iir.specs.declared.Filter.{Filter}
use Rattle.iir.specs.declared.Bands.{Bands}
use Rattle.iir.specs.Step.{out_of, step}

-- R3.24: what comes out of a run over the samples, and the filter after it
abbrev pub run_out : Filter → List Float → List Float
run_out f [] = []
run_out f (x ∷ xs) = out_of f x ∷ run_out (step f x) xs

abbrev pub run_end : Filter → List Float → Filter
run_end f [] = f
run_end f (x ∷ xs) = run_end (step f x) xs

-- R3.25: three bands in a row, each over what came out of the one before
unfoldable pub bands_out : Bands → List Float → List Float
bands_out b xs = run_out b.f2 (run_out b.f1 (run_out b.f0 xs))

unfoldable pub bands_end : Bands → List Float → Bands
bands_end b xs =
    let ys = run_out b.f0 xs in
    record { f0 = run_end b.f0 xs; f1 = run_end b.f1 ys; f2 = run_end b.f2 (run_out b.f1 ys) }
