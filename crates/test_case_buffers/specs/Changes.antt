-- What a change makes of a state's header, of how much is lent of each buffer, and which buffers it leaves as they were. Assumes nothing: these are
-- definitions.
use Rattle.std.specs.Prelude.{◌≡◌, List, ℕ}
use Rattle.layout.specs.declared.Header.{Header}
use Rattle.test_case_buffers.specs.declared.command.Bytes.{Bytes}
use Rattle.test_case_buffers.specs.declared.command.Bytes.TheVariants.{Image, List as OfList, Image2, List2}
use Rattle.test_case_buffers.specs.declared.command.Change.{Change}
use Rattle.test_case_buffers.specs.declared.command.Change.TheVariants.{Set, Fill, Put, Load, Garble, Exchange}
use Rattle.test_case_buffers.specs.declared.command.Number.TheVariants.{K, S, C, Words as OfWords, Bytes as OfBytes}
use Rattle.test_case_buffers.specs.declared.command.Words.{Words}
use Rattle.test_case_buffers.specs.declared.command.Words.TheVariants.{Raw, Full, Log, Block, Out, Scratch}
use Rattle.test_case_buffers.specs.declared.state.State.{State}

-- how much is lent of each buffer
pub record Lents : Type 0 where
  pub raw : ℕ
  pub full : ℕ
  pub log : ℕ
  pub block : ℕ
  pub out : ℕ
  pub scratch : ℕ
  pub image : ℕ
  pub list : ℕ
  pub image2 : ℕ
  pub list2 : ℕ

abbrev pub lents : State → Lents
lents s = record {
  raw = s.raw.lent;
  full = s.full.lent;
  log = s.log.lent;
  block = s.block.lent;
  out = s.out.lent;
  scratch = s.scratch.lent;
  image = s.image.lent;
  list = s.list.lent;
  image2 = s.image2.lent;
  list2 = s.list2.lent;
}

-- so many words are lent of a buffer
abbrev pub words_lent : Words → ℕ → Lents → Lents
words_lent Raw n l = record l { raw = n }
words_lent Full n l = record l { full = n }
words_lent Log n l = record l { log = n }
words_lent Block n l = record l { block = n }
words_lent Out n l = record l { out = n }
words_lent Scratch n l = record l { scratch = n }

-- so many bytes are lent of a buffer
abbrev pub bytes_lent : Bytes → ℕ → Lents → Lents
bytes_lent Image n l = record l { image = n }
bytes_lent OfList n l = record l { list = n }
bytes_lent Image2 n l = record l { image2 = n }
bytes_lent List2 n l = record l { list2 = n }

-- what is lent after a change
abbrev pub lents_after : Change → Lents → Lents
lents_after (Set (OfWords b) n) l = words_lent b n l
lents_after (Set (OfBytes b) n) l = bytes_lent b n l
lents_after Exchange l = record l { image = l.image2; list = l.list2; image2 = l.image; list2 = l.list }
lents_after _ l = l

-- the header after a change
abbrev pub header_after : Change → Header → Header
header_after (Set K k) h = record h { k = k }
header_after (Set S s) h = record h { s = s }
header_after (Set C c) h = record h { c = c }
header_after _ h = h

-- what each buffer holds
pub record Held : Type 0 where
  pub raw : List ℕ
  pub full : List ℕ
  pub log : List ℕ
  pub block : List ℕ
  pub out : List ℕ
  pub scratch : List ℕ
  pub image : List ℕ
  pub list : List ℕ
  pub image2 : List ℕ
  pub list2 : List ℕ

abbrev pub held : State → Held
held s = record {
  raw = s.raw.all.now;
  full = s.full.all.now;
  log = s.log.all.now;
  block = s.block.all.now;
  out = s.out.all.now;
  scratch = s.scratch.all.now;
  image = s.image.all.now;
  list = s.list.all.now;
  image2 = s.image2.all.now;
  list2 = s.list2.all.now;
}

-- all is as it was but for a buffer of words
abbrev pub OnlyWords : Words → Held → Held → Type 0
OnlyWords Raw old new = new ≡ record old { raw = new.raw }
OnlyWords Full old new = new ≡ record old { full = new.full }
OnlyWords Log old new = new ≡ record old { log = new.log }
OnlyWords Block old new = new ≡ record old { block = new.block }
OnlyWords Out old new = new ≡ record old { out = new.out }
OnlyWords Scratch old new = new ≡ record old { scratch = new.scratch }

-- all is as it was but for a buffer of bytes
abbrev pub OnlyBytes : Bytes → Held → Held → Type 0
OnlyBytes Image old new = new ≡ record old { image = new.image }
OnlyBytes OfList old new = new ≡ record old { list = new.list }
OnlyBytes Image2 old new = new ≡ record old { image2 = new.image2 }
OnlyBytes List2 old new = new ≡ record old { list2 = new.list2 }

-- which buffers a change may change
abbrev pub Changes : Change → Held → Held → Type 0
Changes (Set n count) old new = new ≡ old
Changes (Fill b bound seed) old new = OnlyWords b old new
Changes (Put b at word) old new = OnlyWords b old new
Changes (Load b at count) old new = OnlyBytes b old new
Changes (Garble from count seed) old new = new ≡ record old { image = new.image }
Changes Exchange old new = new ≡ record old { image = old.image2; list = old.list2; image2 = old.image; list2 = old.list }
