-- What only private workers cite.
use Rattle.std.specs.Prelude.{◌≤◌, Option, Some, None}
use Rattle.wave.specs.declared.WaveFormat.{WaveFormat}

-- a format that was met has channels
abbrev pub MetOk : Option WaveFormat → Type 0
MetOk None = Unit {0}
MetOk (Some f) = 1 ≤ f.channels
