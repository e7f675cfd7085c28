-- What takes a file's bytes one by one, and then its end.
use Rattle.std.specs.Prelude.{ℕ, List, [], ◌++◌}

pub record SinkLaws {S : Type 0} (Keeps : S → S → Type 0) (Takes Ends Breaks : S → List ℕ → S → Type 0) : Type 0 where
  pub same : (s : S) → Keeps s s
  pub still : (s t u : S) → Keeps s t → Keeps t u → Keeps s u
  -- no bytes are taken at once
  pub none : (s : S) → Takes s [] s
  -- some bytes, and then some more
  pub more : (s t u : S) (l m : List ℕ) → Takes s l t → Takes t m u → Takes s (l ++ m) u
  -- some bytes, and then the rest of the file and its end
  pub ends : (s t u : S) (l m : List ℕ) → Takes s l t → Ends t m u → Ends s (l ++ m) u
  -- where nothing is taken it breaks off, whatever was to come
  pub at_once : (s : S) (l : List ℕ) → Breaks s l s
  -- it breaks off after some bytes
  pub breaks : (s t u : S) (l m : List ℕ) → Takes s l t → Breaks t m u → Breaks s (l ++ m) u
