-- A closed site as plain records. Assumes nothing.
use Rattle.site.specs.declared.closed.ClosedSite.{ClosedSite}
use Rattle.site.specs.Models.{SiteModel, open_model}

abbrev pub closed_model : ClosedSite → SiteModel
closed_model s = open_model s.site
